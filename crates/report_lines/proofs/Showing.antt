-- What reports say of stores, by what shows these.
use Rattle.std.proofs.Common.{◌≡◌, ◌<◌, ℕ, zero, suc, ◌+◌, Bool, List, [], ◌∷◌, ◌++◌, length, take, Option, refl, ◌∙◌, ap, arith}
use Rattle.std.specs.Prelude.{◌-◌, IfSome, is_some, map, slice_get, slice_index}
use Rattle.control_defs.specs.declared.instructions.StoreKind.{StoreKind}
use Rattle.pst_model.specs.Contents.{config_of, status_of, summary_of, times_of}
use Rattle.pst_model.specs.declared.rows.ConfigRow.{ConfigRow}
use Rattle.pst_model.specs.declared.rows.StatusRow.{StatusRow}
use Rattle.pst_model.specs.declared.rows.SummaryRow.{SummaryRow}
use Rattle.pst_model.specs.Table.{Store, content_of}
use Rattle.report_lines.specs.Rows.{config_by, stamps_of, status_by, summary_by}
use Rattle.store_directory.specs.Directory.{Listed}
use Rattle.store_directory.specs.declared.row.Row.{Row}
use Rattle.store_policy.specs.Shown.{AreShown, IsShown}
use Rattle.store_policy.proofs.Stored.{content-behind, packets-counted}
use Rattle.time_index.specs.TimeIndex.{TimeIndex, pages_of}

abbrev summary-with : (store packets pages oldest newest ahead : ℕ) → SummaryRow
summary-with store packets pages oldest newest ahead =
    record { store = store; packets = packets; pages = pages; oldest = oldest; newest = newest; ahead = ahead }

pub summary-shown : (store : Store) (row : Row) (index : TimeIndex) → IsShown store row index → summary_of store ≡ summary_by row index
summary-shown store row index shown =
    let n = length store.packets in
    let m = length index.entries in
    let pages = content_of store in
    let times = times_of store in
    let stamps = stamps_of index in
    let counted : n ≡ m = packets-counted store.packets index.entries shown.packets in
    let same : times ≡ stamps = shown.packets.times in
    ap (λ (id : ℕ). summary-with id n pages (slice_index times 0) (slice_index times (n - 1)) (n - store.behind)) shown.identifier
    ∙ ap (λ (p : ℕ). summary-with row.identifier n p (slice_index times 0) (slice_index times (n - 1)) (n - store.behind)) (content-behind store.packets index.entries shown.packets 0)
    ∙ ap (λ (t : List ℕ). summary-with row.identifier n (pages_of index.entries) (slice_index t 0) (slice_index t (n - 1)) (n - store.behind)) same
    ∙ ap (λ (k : ℕ). summary-with row.identifier k (pages_of index.entries) (slice_index stamps 0) (slice_index stamps (k - 1)) (k - store.behind)) counted
    ∙ ap (λ (b : ℕ). summary-with row.identifier m (pages_of index.entries) (slice_index stamps 0) (slice_index stamps (m - 1)) (m - b)) shown.behind

abbrev status-with : (store : ℕ) (storage open_on range : Bool) → StatusRow
status-with store storage open_on range = record { store = store; storage = storage; open_on = open_on; range = range }

status-one : (store : Store) (listed : Listed) (index : TimeIndex) → IsShown store listed.row index → status_of store ≡ status_by listed
status-one store listed index shown =
    ap (λ (id : ℕ). status-with id store.storage store.open_on (is_some store.range)) shown.identifier
    ∙ ap (λ (b : Bool). status-with listed.identifier b store.open_on (is_some store.range)) shown.storage
    ∙ ap (λ (b : Bool). status-with listed.identifier listed.storage b (is_some store.range)) shown.open_on
    ∙ ap (λ (r : Option (ℕ × ℕ)). status-with listed.identifier listed.storage listed.open_on (is_some r)) shown.range

abbrev config-with : (store : ℕ) (kind : StoreKind) (size channel : ℕ) → ConfigRow
config-with store kind size channel = record { store = store; kind = kind; size = size; channel = channel }

config-one : (store : Store) (listed : Listed) (index : TimeIndex) → IsShown store listed.row index → config_of store ≡ config_by listed
config-one store listed index shown =
    ap (λ (id : ℕ). config-with id store.kind store.size store.channel) shown.identifier
    ∙ ap (λ (k : StoreKind). config-with listed.identifier k store.size store.channel) shown.kind
    ∙ ap (λ (s : ℕ). config-with listed.identifier listed.kind s store.channel) shown.size
    ∙ ap (λ (c : ℕ). config-with listed.identifier listed.kind listed.size c) shown.channel

-- what each store gives is what each listed one gives
each : {X : Type 0} (of : Store → X) (by : Listed → X) → ((store : Store) (listed : Listed) (index : TimeIndex) → IsShown store listed.row index → of store ≡ by listed)
    → (stores : List Store) (listed : List Listed) (indexes : List TimeIndex) → AreShown stores listed indexes → map of stores ≡ map by listed
each of by one [] [] [] shown = refl
each {X} of by one (store ∷ stores) (l ∷ listed) (index ∷ indexes) shown =
    ap (λ (row : X). row ∷ map of stores) (one store l index shown.0.shown)
    ∙ ap (λ (rows : List X). by l ∷ rows) (each of by one stores listed indexes shown.1)
each of by one _ _ _ shown = absurd shown

pub status-shown : (stores : List Store) (listed : List Listed) (indexes : List TimeIndex) → AreShown stores listed indexes → map status_of stores ≡ map status_by listed
status-shown = each status_of status_by status-one

pub config-shown : (stores : List Store) (listed : List Listed) (indexes : List TimeIndex) → AreShown stores listed indexes → map config_of stores ≡ map config_by listed
config-shown = each config_of config_by config-one

-- what stores give, and what the next one gives
pub one_more : {X : Type 0} (by : Listed → X) (stores : List Listed) (at : ℕ) (row : X) → at < length stores → IfSome (slice_get stores at) (λ l. row ≡ by l)
    → map by (take at stores) ++ row ∷ [] ≡ map by (take (at + 1) stores)
one_more by [] at row within is = absurd (omega (arith, within))
one_more {X} by (l ∷ stores) zero row within is = ap (λ (r : X). r ∷ []) is
one_more {X} by (l ∷ stores) (suc at) row within is =
    let more : suc at + 1 ≡ suc (at + 1) = omega arith in
    rw more (ap (λ (rows : List X). by l ∷ rows) (one_more by stores at row (omega (arith, within)) is))
