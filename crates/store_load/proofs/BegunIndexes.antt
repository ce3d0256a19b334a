-- The index of a store that begins a block.
use Rattle.std.proofs.Common.{◌≡◌, ℕ, ◌+◌, ◌<◌, ◌≤◌, List, [], ◌∷◌, ◌++◌, length, drop, Some, ◌∙◌, ap, arith, length-append}
use Rattle.std.proofs.lemmas.List.Elements.{All-append, All-cons, All-nil}
use Rattle.space_packet.specs.Charge.{charge_of}
use Rattle.record_view.specs.Records.{Meaning, record_at}
use Rattle.record_view.specs.declared.link.Link.{Link}
use Rattle.store_directory.specs.Directory.{trimmed}
use Rattle.store_directory.specs.Rows.{between}
use Rattle.store_directory.specs.declared.row.Row.{Row}
use Rattle.time_index.specs.TimeIndex.{TimeIndex, with_entry, without_first}
use Rattle.time_index.specs.declared.entry.Entry.{Entry}
use Rattle.chain_log.specs.Pages.{block_octets}
use Rattle.store_load.specs.Extents.{end_of, last_of, pages_in}
use Rattle.store_load.specs.Keeping.{IsLinkOf, Keeps}
use Rattle.store_load.specs.Loaded.{index_of, index_with}
use Rattle.store_load.specs.Loading.{entry_at}
use Rattle.store_load.specs.Moving.{GoesOn, IsNext, used_by}
use Rattle.store_load.specs.declared.rule.Rule.{Rule}
use Rattle.store_load.proofs.Blocks.{begun_are, followed_are}
use Rattle.store_load.proofs.Counting.{kept_parts, reads_given}
use Rattle.store_load.proofs.Going.{block_followed, used_is}
use Rattle.store_load.proofs.IndexMade.{index_is, index_made}
use Rattle.store_load.proofs.LastLinks.{last_more, none_between, used_none}
use Rattle.store_load.proofs.MovedIndexes.{record_indexed}
use Rattle.store_load.proofs.Places.{placed_closed}

-- a first record
pub first_indexed : (rule : Rule) (image : ℕ → List ℕ) (later : ℕ) (next : Row) (link : Link) (meaning : Meaning)
    → next.first < 4294967296 → next.count ≡ 1 → link.first ≡ next.first
    → record_at (block_octets image link.block) next.first 0 ≡ Some meaning
    → meaning.stamp ≤ later → length meaning.packet ≤ rule.largest → charge_of (length meaning.packet) ≤ next.size
    → index_of rule image later next (link ∷ []) ≡ Some (index_with next (entry_at link.block 0 meaning ∷ []))
first_indexed rule image later next link meaning first one same spelled low largest fits =
    index_made rule image later next (link ∷ []) (meaning ∷ []) ((meaning ∷ []) ∷ [])
    (begun_are rule image later next link meaning first one same spelled low largest fits)
    ∙ ap (λ (n : ℕ). Some (index_with next (drop n (entry_at link.block 0 meaning ∷ [])))) (none_between link.first next.first same first)

module _ (rule : Rule) (blocks : ℕ) (image : ℕ → List ℕ) (now : ℕ) (row : Row) (link : Link) (links : List Link)
    (records : List Meaning) (index : TimeIndex) (new : Link) (keeps : Keeps rule blocks image now row (link ∷ links) records)
    (is : index_of rule image now row (link ∷ links) ≡ Some index) (same : new.first ≡ end_of row)
    (filled : rule.least ≤ used_by image row link links) where
  -- a link without records
  pub link_indexed : index_of rule image now row (link ∷ links ++ new ∷ []) ≡ Some index
  link_indexed =
      let old = kept_parts rule image now row (link ∷ links) records keeps.kept in
      let used = used_is rule blocks image now row link links records keeps in
      index_made rule image now row (link ∷ links ++ new ∷ []) records (old.reads ++ [] ∷ [])
      (followed_are rule blocks image now row link links records keeps new same (omega (arith, filled, used)))
      ∙ ap (λ (l : List Entry). Some (index_with row (drop (between link.first row.first) l)))
      (placed_closed (end_of row) (end_of row) link links new old.reads
      (reads_given blocks image keeps.pages (end_of row) link links old.reads keeps.each_link old.read))
      ∙ ap Some (index_is rule image now row (link ∷ links) records index keeps.kept is)

  -- and its first record
  module _ (own : IsLinkOf blocks new) (few : length links + 2 ≤ 512) where
    keeps_linked : Keeps rule blocks image now row (link ∷ links ++ new ∷ []) records
    keeps_linked = record {
      pages = keeps.pages;
      count = keeps.count;
      first = keeps.first;
      few = omega (arith, few, length-append links (new ∷ []));
      each_link =
          All-append (IsLinkOf blocks) (link ∷ links) (new ∷ []) keeps.each_link
          (All-cons (IsLinkOf blocks) new [] own (All-nil (IsLinkOf blocks)));
      kept = block_followed rule blocks image now row link links records new keeps same filled;
    }

    pub block_indexed : (later gone : ℕ) (next : Row) (meaning : Meaning) → now ≤ later → GoesOn gone 1 row next
        → record_at (block_octets image new.block) (end_of row) 0 ≡ Some meaning → IsNext rule now later meaning
        → pages_in (drop gone records) + charge_of (length meaning.packet) ≤ next.size
        → index_of rule image later next (trimmed next.first next.count (link ∷ links ++ new ∷ []))
        ≡ Some (record (with_entry (without_first index gone) (entry_at new.block 0 meaning)) { size = next.size })
    block_indexed later gone next meaning le goes spelled follows fits =
        let last = last_more link links new in
        let none = used_none image row link links new same in
        let there : record_at (block_octets image (last_of link (links ++ new ∷ [])).block) (end_of row) (used_by image row link (links ++ new ∷ [])) ≡ Some meaning =
        ap (λ (l : Link). record_at (block_octets image l.block) (end_of row) (used_by image row link (links ++ new ∷ []))) last
        ∙ ap (record_at (block_octets image new.block) (end_of row)) none ∙ spelled in
        record_indexed rule blocks image now later row link (links ++ new ∷ []) records index gone next meaning keeps_linked link_indexed le goes there follows fits
        ∙ ap (λ (l : Link). Some (record (with_entry (without_first index gone) (entry_at l.block (used_by image row link (links ++ new ∷ [])) meaning)) { size = next.size })) last
        ∙ ap (λ (n : ℕ). Some (record (with_entry (without_first index gone) (entry_at new.block n meaning)) { size = next.size })) none
