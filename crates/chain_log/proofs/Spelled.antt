-- A record at its place: as it was written, and as it is loaded.
use Rattle.std.proofs.Common.{◌≡◌, ℕ, ◌+◌, ◌-◌, ◌*◌, ◌<◌, ◌≤◌, ◌^◌, List}
use Rattle.std.proofs.Common.{◌++◌, length, take, drop, Some, replicate}
use Rattle.std.proofs.Common.{sym, ◌∙◌, ap, arith, append_assoc, length-append, take-take}
use Rattle.std.proofs.lemmas.List.{drop-drop, drop-take, length-replicate, take-append-le, take_all}
use Rattle.octet_fields.specs.Fields.{field}
use Rattle.octet_fields.proofs.Numbers.{field-take, number_behind}
use Rattle.space_packet.specs.Charge.{charge_of}
use Rattle.space_packet.specs.Packet.{IsPacket, said_length, version_of}
use Rattle.board.specs.Flash.{Flash, IsContent, pages_from}
use Rattle.board.proofs.Pages.{in_pages, inside}
use Rattle.commit_gate.specs.Entries.{octets_from}
use Rattle.commit_gate.proofs.AreaPages.{octets_same}
use Rattle.record_view.specs.Records.{Meaning, Spells, record_at}
use Rattle.record_view.specs.Written.{record_octets, record_pages}
use Rattle.record_view.proofs.Placing.{placed_is_read}
use Rattle.record_view.proofs.Spelling.{read_spelled, spells_read}
use Rattle.chain_log.specs.declared.place.Place.{Place}
use Rattle.chain_log.specs.Loaded.{IsFound, IsPlace, octets_at, packet_in}
use Rattle.chain_log.specs.Pages.{AreWritten, block_octets, page_in, with_pages}
use Rattle.chain_log.proofs.Judging.{none_first}
use Rattle.chain_log.proofs.Octets.{block_length, block_parts, octets_length, octets_whole}
use Rattle.chain_log.proofs.Octets.{pages_of_it}

pub record_length : (number stamp : ℕ) (packet : List ℕ)
    → length (record_pages number stamp packet) ≡ 256 * charge_of (length packet)
record_length number stamp packet =
    let rest : List ℕ = replicate (256 * charge_of (length packet) - (16 + length packet)) 0 in
    omega (
      arith,
      length-append (record_octets number stamp packet) rest,
      length-replicate {A = ℕ} (256 * charge_of (length packet) - (16 + length packet)) 0,
    )

-- the pages of a buffer that begins with a record
pub front_is : (octets rest buf : List ℕ) (pages : ℕ) → buf ≡ octets ++ rest
    → length octets ≡ 256 * pages → take (256 * pages) buf ≡ octets
front_is octets rest buf pages is long =
    ap (take (256 * pages)) is ∙ take-append-le (256 * pages) octets rest (omega arith)
    ∙ take_all (256 * pages) octets (omega arith)

-- the pages that were written hold what was written
pub written_there : (first pages : ℕ) (octets : List ℕ) (flash : Flash)
    → AreWritten (with_pages first pages octets flash).content first pages octets
written_there first pages octets flash i lt =
    let index : first + i - first ≡ i = omega arith in
    inside (pages_from first pages (first + i)) (page_in octets (first + i - first))
    (flash.content (first + i)) (in_pages first pages (first + i) (omega arith) (omega arith))
    ∙ ap (page_in octets) index

-- a record that was written is spelled
pub stands : (blocks : ℕ) (content : ℕ → List ℕ) (block page number stamp : ℕ) (packet : List ℕ)
    → IsContent blocks content → block < blocks → page + charge_of (length packet) ≤ 256
    → number < 2 ^ 32 → stamp < 2 ^ 48 → IsPacket packet
    → AreWritten content (256 * block + page) (charge_of (length packet))
    (record_pages number stamp packet)
    → record_at (block_octets content block) number page
    ≡ Some (record { number = number; stamp = stamp; packet = packet })
stands blocks content block page number stamp packet pages inside_it within number_fits stamp_fits
    whole are =
    let n = charge_of (length packet) in
    let front = octets_from content (256 * block) page in
    let rest = octets_from content (256 * block + page + n) (256 - (page + n)) in
    let zeros : List ℕ = replicate (256 * n - (16 + length packet)) 0 in
    let front_long : length front ≡ 256 * page =
    octets_length blocks content page (256 * block) pages (omega arith) in
    let here : octets_from content (256 * block + page) n
    ≡ record_octets number stamp packet ++ zeros =
    octets_whole content (record_pages number stamp packet) (256 * block + page) n
    (record_length number stamp packet) are in
    let parts : block_octets content block
    ≡ front ++ (record_octets number stamp packet ++ (zeros ++ rest)) =
    block_parts content block page n within
    ∙ ap (λ (l : List ℕ). front ++ (l ++ rest)) here
    ∙ ap (λ (l : List ℕ). front ++ l)
    (append_assoc (record_octets number stamp packet) zeros rest) in
    ap (λ (l : List ℕ). record_at l number page) parts
    ∙ placed_is_read front (zeros ++ rest) packet number stamp page number_fits stamp_fits whole
    front_long within

-- a field that lies among the first octets behind a page
field_cut : (block : List ℕ) (page size n at : ℕ) → at + n ≤ size
    → field n at (take size (drop (256 * page) block)) ≡ field n (256 * page + at) block
field_cut block page size n at within =
    field-take n at size (drop (256 * page) block) within
    ∙ sym (number_behind n at (256 * page) block)

-- a packet that lies there
packet_cut : (block : List ℕ) (page size long : ℕ) → 16 + long ≤ size
    → packet_in (take size (drop (256 * page) block)) long
    ≡ take long (drop (256 * page + 16) block)
packet_cut block page size long within =
    let after : List ℕ = drop (256 * page) block in
    let whole : size ≡ 16 + (size - 16) = omega arith in
    ap (λ (k : ℕ). take long (drop 16 (take k after))) whole
    ∙ ap (take long) (drop-take 16 (size - 16) after)
    ∙ take-take long (size - 16) (drop 16 after) (omega arith)
    ∙ ap (take long) (drop-drop 16 (256 * page) block)

-- a record that is spelled is found, field by field
module _ (blocks : ℕ) (content : ℕ → List ℕ) (place : Place) (number : ℕ) (meaning : Meaning)
    (pages : IsContent blocks content) (fits : IsPlace blocks place)
    (is : record_at (block_octets content place.block) number place.page ≡ Some meaning)
    (long : length meaning.packet ≡ place.length) where
  abbrev block : List ℕ
  block = block_octets content place.block

  abbrev octets : List ℕ
  octets = octets_at content place

  abbrev size : ℕ
  size = 256 * charge_of place.length

  spells : Spells block number place.page meaning
  spells = spells_read block number place.page meaning
      (block_length blocks content place.block pages fits.block) is

  cut : octets ≡ take size (drop (256 * place.page) block)
  cut = pages_of_it blocks content place.block place.page (charge_of place.length) pages fits.block
      fits.within

  field_is : (n at : ℕ) → at + n ≤ 16 → field n at octets ≡ field n (256 * place.page + at) block
  field_is n at within =
      ap (field n at) cut ∙ field_cut block place.page size n at (omega arith)

  packet_is : packet_in octets place.length ≡ meaning.packet
  packet_is =
      ap (λ (l : List ℕ). packet_in l place.length) cut
      ∙ packet_cut block place.page size place.length (omega arith)
      ∙ ap (λ (k : ℕ). take k (drop (256 * place.page + 16) block)) (sym long)
      ∙ spells.packet_there

  pub found : IsFound octets number place.length meaning
  found = record {
    none_differs = none_first number place.length octets
        (sym (field_is 4 6 (omega arith) ∙ spells.number_there))
        (sym (field_is 2 10 (omega arith) ∙ spells.said_length ∙ long))
        (sym (ap version_of packet_is ∙ spells.packet.version))
        (sym long ∙ spells.packet.whole ∙ ap said_length (sym packet_is));
    record_is = (λ i. record {
      number = spells.same_number i;
      stamp = sym (field_is 6 0 (omega arith) ∙ stamp_there) i;
      packet = sym packet_is i;
    });
  }
    where
      stamp_there : field 6 (256 * place.page + 0) block ≡ meaning.stamp
      stamp_there = ap (λ (k : ℕ). field 6 k block) (omega arith) ∙ spells.stamp

-- a record is spelled as long as its pages hold what they held
module _ (blocks : ℕ) (content other : ℕ → List ℕ) (block page number : ℕ) (meaning : Meaning)
    (pages : IsContent blocks content) (pages_too : IsContent blocks other)
    (inside_it : block < blocks)
    (is : record_at (block_octets content block) number page ≡ Some meaning)
    (same : (i : ℕ) → i < charge_of (length meaning.packet)
    → other (256 * block + page + i) ≡ content (256 * block + page + i)) where
  abbrev was : List ℕ
  was = block_octets content block

  abbrev now : List ℕ
  now = block_octets other block

  abbrev count : ℕ
  count = charge_of (length meaning.packet)

  spelled_once : Spells was number page meaning
  spelled_once =
      spells_read was number page meaning (block_length blocks content block pages inside_it) is

  cut_same : take (256 * count) (drop (256 * page) now) ≡ take (256 * count) (drop (256 * page) was)
  cut_same =
      sym (pages_of_it blocks other block page count pages_too inside_it spelled_once.within)
      ∙ octets_same content other count (256 * block + page) each_same
      ∙ pages_of_it blocks content block page count pages inside_it spelled_once.within
    where
      each_same : (q : ℕ) → 256 * block + page ≤ q → q < 256 * block + page + count
          → other q ≡ content q
      each_same q low high =
          let at : q ≡ 256 * block + page + (q - (256 * block + page)) = omega arith in
          ap other at ∙ same (q - (256 * block + page)) (omega arith) ∙ ap content (sym at)

  field_same : (n at : ℕ) → at + n ≤ 16
      → field n (256 * page + at) now ≡ field n (256 * page + at) was
  field_same n at within =
      sym (field_cut now page (256 * count) n at (omega arith))
      ∙ ap (field n at) cut_same
      ∙ field_cut was page (256 * count) n at (omega arith)

  pub stays : record_at now number page ≡ Some meaning
  stays = read_spelled now number page meaning (record {
    same_number = spelled_once.same_number;
    number_there = field_same 4 6 (omega arith) ∙ spelled_once.number_there;
    zeros = field_same 4 12 (omega arith) ∙ spelled_once.zeros;
    stamp = ap (λ (k : ℕ). field 6 k now) front ∙ field_same 6 0 (omega arith)
        ∙ ap (λ (k : ℕ). field 6 k was) (sym front) ∙ spelled_once.stamp;
    said_length = field_same 2 10 (omega arith) ∙ spelled_once.said_length;
    packet_there = sym (packet_cut now page (256 * count) (length meaning.packet) (omega arith))
        ∙ ap (λ (l : List ℕ). packet_in l (length meaning.packet)) cut_same
        ∙ packet_cut was page (256 * count) (length meaning.packet) (omega arith)
        ∙ spelled_once.packet_there;
    packet = spelled_once.packet;
    within = spelled_once.within;
  })
    where
      front : 256 * page ≡ 256 * page + 0
      front = omega arith
