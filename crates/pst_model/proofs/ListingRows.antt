-- Lines of worked listings, by computation. Numbers and hexadecimal digits stay as the library spells
-- them.
use Rattle.std.proofs.Common.{◌≡◌, ℕ, List, [], ◌∷◌, ◌++◌, refl, Some, None}
use Rattle.std.specs.Prelude.{codes, replicate, true, false}
use Rattle.std.specs.Fmt.{decimal}
use Rattle.hex.specs.Hex.{encode_lower}
use Rattle.control_defs.specs.declared.instructions.StoreKind.TheVariants.{Bounded}
use Rattle.control_defs.specs.declared.patterns.Pattern.TheVariants.{Every, App, Service, Kind}
use Rattle.pst_model.specs.Listing.{packet_line, pattern_line, pattern_words, store_words, table_line, words_line}
use Rattle.pst_model.specs.Table.{Store, after_format, boot_store}

spelled : pattern_line Every ≡ codes "pattern every\n"
spelled = refl

clock : table_line after_format ≡ words_line (codes "now" ∷ encode_lower (replicate 6 0) ∷ codes "reports" ∷ decimal 0 ∷ [])
clock = refl

-- the store of a table after a format
boot : store_words boot_store
    ≡ codes "store" ∷ decimal 1 ∷ codes "circular" ∷ codes "size" ∷ decimal 64 ∷ codes "channel" ∷ decimal 1
    ∷ codes "storage" ∷ codes "on" ∷ codes "open" ∷ codes "on" ∷ codes "behind" ∷ decimal 0 ∷ codes "range" ∷ codes "none"
    ∷ codes "told" ∷ codes "no" ∷ codes "packets" ∷ decimal 0 ∷ codes "pages" ∷ decimal 0 ∷ []
boot = refl

-- a bounded store with a range, a refusal that was told, and one packet of two pages
bounded : store_words (record {
  identifier = 65535;
  kind = Bounded;
  size = 100000;
  channel = 7;
  storage = false;
  open_on = false;
  told = true;
  patterns = [];
  packets = record { time = 254; octets = replicate 241 0 } ∷ [];
  behind = 1;
  range = Some (0, 1);
})
    ≡ codes "store" ∷ decimal 65535 ∷ codes "bounded" ∷ codes "size" ∷ decimal 100000 ∷ codes "channel" ∷ decimal 7
    ∷ codes "storage" ∷ codes "off" ∷ codes "open" ∷ codes "off" ∷ codes "behind" ∷ decimal 1
    ∷ codes "range" ∷ decimal 0 ∷ decimal 1 ∷ codes "told" ∷ codes "yes" ∷ codes "packets" ∷ decimal 1 ∷ codes "pages" ∷ decimal 2 ∷ []
bounded = refl

patterns : (pattern_words (App 2047) ≡ codes "app" ∷ decimal 2047 ∷ [])
    × (pattern_words (Service 100 3) ≡ codes "service" ∷ decimal 100 ∷ decimal 3 ∷ [])
    × (pattern_words (Kind 102 5 2) ≡ codes "kind" ∷ decimal 102 ∷ decimal 5 ∷ decimal 2 ∷ [])
patterns = (refl, refl, refl)

packet : packet_line (record { time = 254; octets = 8 ∷ 171 ∷ [] })
    ≡ words_line (codes "packet" ∷ encode_lower (replicate 5 0 ++ 254 ∷ []) ∷ encode_lower (8 ∷ 171 ∷ []) ∷ [])
packet = refl
