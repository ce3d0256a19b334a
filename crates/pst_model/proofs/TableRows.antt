-- The definitions on worked inputs, by computation.
use Rattle.std.proofs.Common.{◌≡◌, ℕ, ◌+◌, List, [], ◌∷◌, ◌++◌, length, refl, Some}
use Rattle.std.specs.Prelude.{map, replicate}
use Rattle.std.specs.List.{range_with_len}
use Rattle.hex.specs.Hex.{encode_with}
use Rattle.pst_model.specs.Command.{Command, Arrival, Grant}
use Rattle.pst_model.specs.Acknowledged.{acknowledged}
use Rattle.pst_model.specs.Rules.{Output, Forwarded, Reply, Retrieved, Refused, put}
use Rattle.pst_model.specs.Run.{run}
use Rattle.control_defs.specs.declared.instructions.StoreKind.TheVariants.{Bounded}
use Rattle.pst_model.specs.Table.{Store, Stored, Table, after_format, boot_store, content_of, drop_front}

-- a packet of 20 octets, of which the last one varies
abbrev packet : ℕ → List ℕ
packet last = 0x08 ∷ 0x64 ∷ 0xc0 ∷ 0x00 ∷ 0x00 ∷ 0x0d ∷ 0x20 ∷ 0x03 ∷ 0x19 ∷ 0x00 ∷ 0x00 ∷ 0x00 ∷ 0x00 ∷ 0x00 ∷ 0x00 ∷ 0x00 ∷ 0x00 ∷ 0x00 ∷ 0x10 ∷ last ∷ []

-- packets of 4,096, 4,080 and 300 octets: 17, 16 and 2 pages
abbrev largest : List ℕ
largest = (0x08 ∷ 0x64 ∷ 0xc0 ∷ 0x00 ∷ 0x0f ∷ 0xf9 ∷ []) ++ replicate 4090 0

abbrev large : List ℕ
large = (0x08 ∷ 0x64 ∷ 0xc0 ∷ 0x00 ∷ 0x0f ∷ 0xe9 ∷ []) ++ replicate 4074 0

abbrev longer : List ℕ
longer = (0x08 ∷ 0x64 ∷ 0xc0 ∷ 0x00 ∷ 0x01 ∷ 0x25 ∷ []) ++ replicate 294 0

abbrev idle : List ℕ
idle = 0x07 ∷ 0xff ∷ 0xc0 ∷ 0x00 ∷ 0x00 ∷ 0x00 ∷ 0x00 ∷ []

-- a table of the boot store alone
abbrev stored_store : List Stored → (behind : ℕ) → Store
stored_store packets behind = record boot_store { packets = packets; behind = behind }

abbrev boot_table : (now : ℕ) → List Stored → (behind : ℕ) → Table
boot_table now packets behind = record after_format { now = now; stores = stored_store packets behind ∷ [] }

abbrev stored_at : (time : ℕ) → List ℕ → Stored
stored_at time octets = record { time = time; octets = octets }

abbrev sent : (command : ℕ) → List ℕ → Output
sent command octets = record { command = command; kind = Retrieved; channel = 1; packet = octets }

-- a packet goes out once
a_grant_sends : (run 64 after_format (Arrival 16 (packet 1) ∷ Grant 17 ∷ [])).outputs ≡ sent 2 (packet 1) ∷ []
a_grant_sends = refl

a_second_grant_sends_nothing : run 64 after_format (Arrival 16 (packet 1) ∷ Grant 17 ∷ Grant 18 ∷ []) ≡ record { table = boot_table 16 (stored_at 16 (packet 1) ∷ []) 1; outputs = sent 2 (packet 1) ∷ [] }
a_second_grant_sends_nothing = refl

-- three times 17 pages and 16 more are over 64, so the first packet leaves
abbrev counts : Table → List (ℕ × ℕ)
counts table = map (λ store. (length store.packets, content_of store)) table.stores

the_oldest_leaves : counts (run 64 after_format (Arrival 1 largest ∷ Arrival 2 largest ∷ Arrival 3 largest ∷ Arrival 4 large ∷ [])).table ≡ (3, 50) ∷ []
the_oldest_leaves = refl

-- an idle packet moves the storage time alone
an_idle_packet_is_not_stored : run 64 after_format (Arrival 64 idle ∷ []) ≡ record { table = boot_table 64 [] 0; outputs = [] }
an_idle_packet_is_not_stored = refl

-- 65 packets of a page each, and 65 grants: the first packet left
abbrev many : List Command
many = map (λ n. Arrival n (packet n)) (range_with_len 1 65) ++ map (λ n. Grant (65 + n)) (range_with_len 1 65)

sixty_four_go_out : (run 64 after_format many).outputs ≡ map (λ n. sent (64 + n) (packet n)) (range_with_len 2 64)
sixty_four_go_out = refl

-- storage times never fall
times_do_not_fall : (run 64 after_format (Arrival 48 (packet 1) ∷ Arrival 32 (packet 2) ∷ [])).table ≡ boot_table 48 (stored_at 48 (packet 1) ∷ stored_at 48 (packet 2) ∷ []) 0
times_do_not_fall = refl

-- a refusal says the pages that are needed and those free
abbrev bounded : Store
bounded = record (stored_store (stored_at 1 (packet 1) ∷ []) 0) { kind = Bounded; size = 2 }

a_bounded_store_refuses : put bounded (stored_at 2 longer) ≡ Refused 2 1
a_bounded_store_refuses = refl

a_small_store_refuses : put (record (stored_store [] 0) { size = 16 }) (stored_at 1 largest) ≡ Refused 17 16
a_small_store_refuses = refl

-- a range retrieval goes first, and ends behind its last position
abbrev ranged : Table
ranged = record (boot_table 2 [] 0) { stores = record (stored_store (stored_at 1 (packet 1) ∷ stored_at 2 (packet 2) ∷ []) 1) { range = Some (0, 2) } ∷ [] }

a_range_goes_first : run 64 ranged (Grant 3 ∷ Grant 4 ∷ []) ≡ record { table = boot_table 2 (stored_at 1 (packet 1) ∷ stored_at 2 (packet 2) ∷ []) 1; outputs = sent 1 (packet 1) ∷ sent 2 (packet 2) ∷ [] }
a_range_goes_first = refl

-- where packets leave, the positions move with those that stay
abbrev three : List Stored
three = stored_at 1 (packet 1) ∷ stored_at 2 (packet 2) ∷ stored_at 3 (packet 3) ∷ []

positions_move : drop_front (record (stored_store three 1) { range = Some (1, 3) }) 2 ≡ record (stored_store (stored_at 3 (packet 3) ∷ []) 0) { range = Some (0, 1) }
positions_move = refl

-- of the second line one octet is enough
abbrev two : List Output
two = sent 2 (packet 1) ∷ sent 3 (packet 2) ∷ []

no_octet_acknowledges_nothing : acknowledged two 0 ≡ 0
no_octet_acknowledges_nothing = refl

the_first_line_acknowledges : acknowledged two 43 ≡ 2
unfolding encode_with
the_first_line_acknowledges = refl

one_octet_acknowledges : acknowledged two 44 ≡ 3
unfolding encode_with
one_octet_acknowledges = refl

a_forwarded_line_acknowledges_nothing : acknowledged (record { command = 1; kind = Forwarded; channel = 0; packet = packet 1 } ∷ []) 43 ≡ 0
unfolding encode_with
a_forwarded_line_acknowledges_nothing = refl

a_reply_acknowledges : acknowledged (record { command = 1; kind = Reply; channel = 0; packet = packet 1 } ∷ []) 1 ≡ 1
unfolding encode_with
a_reply_acknowledges = refl
