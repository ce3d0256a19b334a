use Rattle.commit_gate.specs.Entries.{area_of}
use Rattle.commit_gate.proofs.EntriesRead.{either_read, entries_read}
use Rattle.commit_gate.proofs.Images.{image_stands}
use Rattle.commit_gate.proofs.laws.images_are_read.Goals as goal

pub returns : goal.returns
returns c = record {
  standing = λ blocks flash base start entries end image fits stands is. entries_read
      (area_of base image) start entries end (image_stands blocks flash base start entries end fits
      stands image is);
  written = either_read;
}
