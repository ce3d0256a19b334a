-- The record of an arriving packet, and a block that begins with it.
use Rattle.std.specs.Prelude.{◌≡◌, ℕ, Result, IfOk, OnOk}
use Rattle.block_pool.specs.Blocks.{Blocks, blocks_of}
use Rattle.board.specs.Flash.{pages_of_block}
use Rattle.board.specs.Meaning.{BoardMeaning, TellsFlash}
use Rattle.board.specs.Touches.{Touches}
use Rattle.chain_log.specs.Pages.{IsCleanFrom}
use Rattle.pst_model.specs.Table.{Stored}
use Rattle.space_packet.specs.View.{octets_of}
use Rattle.time_index.specs.declared.entry.Entry.{Entry}
use Rattle.put_laws.specs.Indexes.{entry_of}
use Rattle.put_laws.specs.Puts.{SpellsAt, need_of}
use Rattle.store_put.specs.Pools.{IsTaken, wear_begun}
use Rattle.store_put.specs.declared.recording.Arrival.{Arrival}

-- a packet that arrives as the model has it
abbrev pub stored_by : Arrival → Stored
stored_by arrival = record { time = arrival.time; octets = octets_of arrival.packet }

-- A free block was taken, and begins with a record of this number. Only its pages are touched, also
-- where a call failed.
pub record Begins {B E : Type 0} (means : BoardMeaning B) (old_pool new_pool : Blocks) (old new : B)
    (number : ℕ) (stored : Stored) (result : Result Entry E) : Type 0 where
  pub block : ℕ
  pub taken : IsTaken old_pool new_pool block
  pub many : blocks_of new_pool ≡ blocks_of old_pool
  -- the block was erased if it was not ready, which is counted
  pub wear : OnOk result (new_pool.wear ≡ wear_begun old_pool block)
  pub entry : IfOk result (λ entry. entry ≡ entry_of stored block 0)
  pub spelled : OnOk result (TellsFlash means old
      → SpellsAt (means.flash new).content block 0 number stored)
  pub clean : OnOk result (TellsFlash means old
      → IsCleanFrom (means.flash new) block (need_of stored))
  pub seen : OnOk result (TellsFlash means old
      → means.images new (means.moment new) (means.flash new).content)
  pub touches : Touches means (pages_of_block block) (need_of stored) 1 1 old new
