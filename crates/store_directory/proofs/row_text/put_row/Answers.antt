use Rattle.std.proofs.Common.{ℕ, List, ◌∷◌, ◌++◌, [], refl, subst}
use Rattle.octet_fields.specs.Fields.{Writes, big_bytes}
use Rattle.octet_fields.proofs.Splices.{Writes-then}
use Rattle.store_directory.proofs.row_text.put_row.Goals as goal

pub returns-clause-written : goal.returns-clause-written
returns-clause-written c =
    let row = c.args.row.now in
    let store : ℕ → ℕ → List ℕ = λ kind flags. big_bytes 2 row.identifier ++ kind ∷ big_bytes 4 row.size ++ row.channel ∷ flags ∷ [] in
    let records : ℕ → ℕ → List ℕ = λ next end. big_bytes 4 row.first ++ big_bytes 4 row.count ++ big_bytes 4 row.behind ++ big_bytes 4 next ++ big_bytes 4 end in
    subst (λ (ys : List ℕ). Writes c.args.out.now c.put_records.new.out c.args.at ys)
    (λ i. store (c.octet.ensures i) (c.flags_of-flags.ensures i) ++ records (c.positions_of-range.ensures.next i) (c.positions_of-range.ensures.end i))
    (Writes-then c.put_store.ensures c.put_records.ensures refl)
