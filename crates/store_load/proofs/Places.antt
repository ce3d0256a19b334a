-- The entries of the records of extents, as these get more records and more blocks.
use Rattle.std.proofs.Common.{◌≡◌, ℕ, ◌+◌, List, [], ◌∷◌, ◌++◌, length, refl, sym, ◌∙◌, ap, arith, append_assoc, append-nil}
use Rattle.space_packet.specs.Charge.{charge_of}
use Rattle.record_view.specs.Records.{Meaning}
use Rattle.record_view.specs.declared.link.Link.{Link}
use Rattle.time_index.specs.declared.entry.Entry.{Entry}
use Rattle.store_load.specs.Extents.{AreGiven, extents_from, last_of, last_read, pages_in, with_record}
use Rattle.store_load.specs.Loaded.{placed, placed_all}
use Rattle.store_load.specs.Loading.{entry_at}

placed_both : (block page : ℕ) (xs ys : List Meaning) → placed block page (xs ++ ys) ≡ placed block page xs ++ placed block (page + pages_in xs) ys
placed_both block page [] ys = let same : page ≡ page + 0 = omega arith in ap (λ (n : ℕ). placed block n ys) same
placed_both block page (x ∷ xs) ys =
    let cost = charge_of (length x.packet) in
    let same : page + cost + pages_in xs ≡ page + (cost + pages_in xs) = omega arith in
    ap (λ (l : List Entry). entry_at block page x ∷ l)
    (placed_both block (page + cost) xs ys ∙ ap (λ (n : ℕ). placed block (page + cost) xs ++ placed block n ys) same)

-- one record more in the last extent
pub placed_more : (end later : ℕ) (link : Link) (links : List Link) (reads : List (List Meaning)) (r : Meaning) → AreGiven (extents_from end link links) reads
    → placed_all (extents_from later link links) (with_record reads r)
    ≡ placed_all (extents_from end link links) reads ++ entry_at (last_of link links).block (pages_in (last_read reads)) r ∷ []
placed_more end later link [] [] r given = absurd given
placed_more end later link [] (records ∷ next ∷ reads) r given = absurd given.1
placed_more end later link [] (records ∷ []) r given =
    let here = placed link.block 0 records in
    let page : 0 + pages_in records ≡ pages_in records = omega arith in
    append-nil (placed link.block 0 (records ++ r ∷ []))
    ∙ placed_both link.block 0 records (r ∷ [])
    ∙ ap (λ (n : ℕ). here ++ entry_at link.block n r ∷ []) page
    ∙ ap (λ (l : List Entry). l ++ entry_at link.block (pages_in records) r ∷ []) (sym (append-nil here))
placed_more end later link (next ∷ links) [] r given = absurd given
placed_more end later link (next ∷ []) (records ∷ []) r given = absurd given.1
placed_more end later link (next ∷ third ∷ links) (records ∷ []) r given = absurd given.1
placed_more end later link (next ∷ links) (records ∷ others ∷ reads) r given =
    let here = placed link.block 0 records in
    let entry = entry_at (last_of next links).block (pages_in (last_read (others ∷ reads))) r in
    ap (λ (l : List Entry). here ++ l) (placed_more end later next links (others ∷ reads) r given.1)
    ∙ sym (append_assoc here (placed_all (extents_from end next links) (others ∷ reads)) (entry ∷ []))

-- a link without records behind the others
pub placed_closed : (end later : ℕ) (link : Link) (links : List Link) (closed : Link) (reads : List (List Meaning)) → AreGiven (extents_from end link links) reads
    → placed_all (extents_from later link (links ++ closed ∷ [])) (reads ++ [] ∷ []) ≡ placed_all (extents_from end link links) reads
placed_closed end later link [] closed [] given = absurd given
placed_closed end later link [] closed (records ∷ next ∷ reads) given = absurd given.1
placed_closed end later link [] closed (records ∷ []) given = refl
placed_closed end later link (next ∷ links) closed [] given = absurd given
placed_closed end later link (next ∷ links) closed (records ∷ reads) given =
    ap (λ (l : List Entry). placed link.block 0 records ++ l) (placed_closed end later next links closed reads given.1)
