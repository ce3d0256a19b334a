-- The codes of refusals, by which reports tell why an instruction fails (ECSS-E-ST-70-41C, 6.1.5).
use Rattle.std.specs.Prelude.{ℕ}
use Rattle.pst_model.specs.Failures.{already_so, content_too_large, empty_window, holds_a_packet, no_blocks, no_such_pattern, open_is_on, range_stands, same_store, storage_is_on, store_exists, times_reversed, too_many_patterns, too_many_stores, unknown_store, window_too_large, wrong_channel, wrong_size}
use Rattle.store_policy.specs.declared.refusal.Refusal.{Refusal}
use Rattle.store_policy.specs.declared.refusal.Refusal.TheVariants.{UnknownStore, StoreExists, StoreLimit, SizeRange, NoBlocks, BadChannel, StorageOn, OpenOn, RangeOn, Reversed, NotEmpty, NothingThere, Full, TooSmall, PatternLimit, PatternAbsent, AlreadySo, SameStore}

abbrev pub code_of : Refusal → ℕ
code_of UnknownStore = unknown_store
code_of StoreExists = store_exists
code_of StoreLimit = too_many_stores
code_of SizeRange = wrong_size
code_of (NoBlocks need free) = no_blocks
code_of BadChannel = wrong_channel
code_of StorageOn = storage_is_on
code_of OpenOn = open_is_on
code_of RangeOn = range_stands
code_of Reversed = times_reversed
code_of NotEmpty = holds_a_packet
code_of NothingThere = empty_window
code_of (Full need free) = window_too_large
code_of (TooSmall content) = content_too_large
code_of PatternLimit = too_many_patterns
code_of PatternAbsent = no_such_pattern
code_of AlreadySo = already_so
code_of SameStore = same_store
