-- The counts of a board over a file.
use Rattle.board.specs.Counts.{Counts}
use Rattle.image_board.specs.declared.tally.Tally.{Tally}

abbrev pub counts_in : Tally → Counts
counts_in tally = record {
  flash_faults = tally.flash_faults;
  link_faults = tally.link_faults;
  reads = tally.reads;
  programs = tally.programs;
  erases = tally.erases;
  barriers = tally.barriers;
  sends = tally.sends;
}

-- nothing was asked for yet
abbrev pub no_counts : Counts
no_counts = record {
  flash_faults = 0;
  link_faults = 0;
  reads = 0;
  programs = 0;
  erases = 0;
  barriers = 0;
  sends = 0;
}
