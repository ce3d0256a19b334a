-- The work of a session, from its begin.
use Rattle.std.proofs.Common.{◌≡◌, ◌≤◌, ℕ, ◌+◌, ◌*◌, ◌&&◌, not, zero, suc, true, false, List, [], ◌∷◌, length, Some, refl, sym, ◌∙◌, ap, subst, arith}
use Rattle.std.proofs.lemmas.Bool.{false≢true}
use Rattle.std.proofs.lemmas.List.{length-map}
use Rattle.std.proofs.lemmas.Option.{none-some, same_Some}
use Rattle.std.specs.Prelude.{nat_lt, slice_get}
use Rattle.board.specs.Device.{Device}
use Rattle.board.specs.Flash.{Flash}
use Rattle.board.specs.Meaning.{BoardMeaning, SourceMeaning, TellsFlash}
use Rattle.board.proofs.Works.{tells_too}
use Rattle.handler.proofs.Shown.{is_view, view_of}
use Rattle.pst_model.specs.Command.{Command}
use Rattle.pst_model.specs.Table.{Store, Table}
use Rattle.pst_model.specs.Text.{commands_of}
use Rattle.record_view.specs.declared.link.Link.{Link}
use Rattle.station.proofs.Workings.{works_since}
use Rattle.station.specs.declared.ending.Ending.{Ending}
use Rattle.station.specs.declared.tally.Tally.{Tally}
use Rattle.station.specs.Opening.{Opened}
use Rattle.station.specs.Reading.{EndsReading, text_limit}
use Rattle.station.specs.Station.{Held}
use Rattle.station.specs.Working.{AreEmpty, ArePlain, NoneIsStale, SessionWorks, WorksFor}
use Rattle.store_directory.specs.Directory.{Listed}
use Rattle.store_directory.specs.Rows.{is_by}
use Rattle.store_directory.specs.declared.row.Row.{Row}
use Rattle.store_load.specs.Kept.{begins_well}
use Rattle.store_policy.specs.Shown.{AreIndexed, AreShown, length_of, octets_in}
use Rattle.pst_model.specs.Table.{Stored}
use Rattle.time_index.specs.TimeIndex.{TimeIndex}
use Rattle.time_index.specs.declared.entry.Entry.{Entry}
use Rattle.vault.specs.Memory.{EachStore, InMemory, IsFresh, IsSound, IsSoundStore, IsStaleStore, has_link}
use Rattle.vault.specs.Standing.{StandsFor}
use Rattle.vault.specs.declared.last_block.LastBlock.{LastBlock}

-- a store without records has no block
no_links : (row : Row) (links : List Link) → begins_well row links ≡ true → row.count ≡ 0 → has_link links ≡ false
no_links row [] begins none = refl
no_links row (link ∷ []) begins none =
    absurd (false≢true (subst (λ (n : ℕ). (nat_lt 0 n && is_by link.first row.first) ≡ true) none begins))
no_links row (link ∷ next ∷ links) begins none =
    absurd (false≢true (subst (λ (n : ℕ). (nat_lt 0 n && is_by link.first row.first && not (is_by next.first row.first)) ≡ true) none begins))

no_entries : (packets : List Stored) (entries : List Entry) → AreIndexed packets entries → packets ≡ [] → length entries ≡ 0
no_entries packets entries are none =
    sym (length-map entries length_of) ∙ sym (ap (λ (l : List ℕ). length l) are.lengths)
    ∙ length-map packets octets_in ∙ ap (λ (l : List Stored). length l) none

-- so after an opening no last block is stale, where no store has a packet
none_stale : (now : ℕ) (stores : List Store) (listed : List Listed) (indexes : List TimeIndex) (lasts : List LastBlock) → AreShown stores listed indexes
    → EachStore (IsSoundStore now) listed indexes lasts → EachStore IsStaleStore listed indexes lasts → AreEmpty stores
    → (place : ℕ) (last : LastBlock) → slice_get lasts place ≡ Some last → last.stale ≡ false
none_stale now [] [] [] [] shown sound stale empty place last is = absurd (none-some last is)
none_stale now [] [] [] (l ∷ lasts) shown sound stale empty place last is = absurd sound
none_stale now [] [] (i ∷ indexes) lasts shown sound stale empty place last is = absurd shown
none_stale now [] (s ∷ listed) indexes lasts shown sound stale empty place last is = absurd shown
none_stale now (x ∷ stores) [] indexes lasts shown sound stale empty place last is = absurd shown
none_stale now (x ∷ stores) (s ∷ listed) [] lasts shown sound stale empty place last is = absurd shown
none_stale now (x ∷ stores) (s ∷ listed) (i ∷ indexes) [] shown sound stale empty place last is = absurd sound
none_stale now (x ∷ stores) (s ∷ listed) (i ∷ indexes) (l ∷ lasts) shown sound stale empty zero last is =
    let range = sound.0.in_place.in_range in
    let none = no_entries x.packets i.entries shown.0.shown.packets empty.0 in
    ap (λ (b : LastBlock). b.stale) (sym (same_Some l last is)) ∙ stale.0 ∙ no_links s.row s.links range.begins (sym range.count ∙ none)
none_stale now (x ∷ stores) (s ∷ listed) (i ∷ indexes) (l ∷ lasts) shown sound stale empty (suc place) last is =
    none_stale now stores listed indexes lasts shown.1 sound.1 stale.1 empty.1 place last is

pub opened_fresh : (vault : InMemory) (flash : Flash) (table : Table) → IsSound vault → IsFresh vault → StandsFor vault flash table → AreEmpty table.stores
    → NoneIsStale vault
opened_fresh vault flash table sound fresh stands empty =
    none_stale vault.directory.now table.stores vault.directory.stores vault.indexes vault.lasts (stands.shows (view_of vault) (is_view vault)).stores
    sound.stores fresh.stale empty

-- a session behind a barrier, or behind a format
pub opened_works : {B S : Type 0} (means : BoardMeaning B) (input : SourceMeaning S) (old mid new : B) (origin source : S) (ending : Ending) (programs : ℕ)
    (begins : Table → Type 0) → means.device mid ≡ means.device old → (means.counts mid).reads ≤ (means.counts old).reads
    → (means.counts mid).programs ≤ (means.counts old).programs + programs
    → (TellsFlash means old → (table : Table) → begins table → Held means mid table × AreEmpty table.stores)
    → {tally : Tally} → Opened means input mid new origin source ending tally → SessionWorks means input programs begins old new origin ending
opened_works means input old mid new origin source ending programs begins same reads written at opened is told tells table begun plain =
    let (held, empty) = at told table begun in
    let blocks = (means.device old).blocks in
    let at_done = subst (λ (e : Ending). EndsReading (input.left origin) (input.left source) opened.done e) is (opened.reading tells) in
    let done_is : opened.done ≡ commands_of text_limit (input.left origin) = at_done.2 in
    let work = opened.work is (tells_too same told) table held empty (subst ArePlain (sym done_is) plain) in
    let here : WorksFor blocks table opened.done (512 * blocks) 0 (means.counts mid) (means.counts new) =
    subst (λ (d : Device). WorksFor d.blocks table opened.done (512 * d.blocks) 0 (means.counts mid) (means.counts new)) same work in
    let since : WorksFor blocks table opened.done (512 * blocks) programs (means.counts old) (means.counts new) =
    works_since (512 * blocks) programs (means.counts old) here (omega (arith, reads)) (omega (arith, written)) in
    subst (λ (commands : List Command). WorksFor blocks table commands (512 * blocks) programs (means.counts old) (means.counts new)) done_is since
