use Rattle.std.proofs.Common.{inr, refl, sym, subst}
use Rattle.station.specs.declared.ending.Ending.{Ending}
use Rattle.station.specs.declared.ending.Ending.TheVariants.{NoMemory}
use Rattle.station.specs.Endings.{IsListed}
use Rattle.station.specs.Station.{IsCaused, SendsListing}
use Rattle.station.proofs.Listing.{broken_listed, caused_broken, caused_done, listing_broken, listing_done, listing_none, sends_none, writes_none}
use Rattle.station.proofs.sending.send_opened.Goals as goal
use Rattle.listing.specs.Lists.{ToldTable}

pub returns-in_default-clause-listing : goal.returns-in_default-clause-listing
returns-in_default-clause-listing g c =
    let means = g.B.Board.means in
    let board = c.args.board.now in
    listing_none means (ToldTable means c.args.vault board) board board NoMemory (λ is. cc)
    (writes_none means board (λ image told left. g.met.B.Board.images_now board image told left)) (sends_none means board) (λ table held. inr (inr refl))

pub returns-in-Ok-send_listing-clause-listing : goal.returns-in-Ok-send_listing-clause-listing
returns-in-Ok-send_listing-clause-listing g c =
    let means = g.B.Board.means in
    listing_done means (ToldTable means c.args.vault c.args.board.now) _ _ c.args.board.now c.send_listing.new.board c.in-Ok-send_listing.ensures.ok

pub returns-in-Ok-send_listing-clause-caused : goal.returns-in-Ok-send_listing-clause-caused
returns-in-Ok-send_listing-clause-caused g c =
    let means = g.B.Board.means in
    caused_done means (ToldTable means c.args.vault c.args.board.now) _ _ c.args.board.now c.send_listing.new.board c.in-Ok-send_listing.ensures.ok

pub returns-clause-listing : goal.returns-clause-listing
returns-clause-listing g c =
    let means = g.B.Board.means in
    subst (λ (e : Ending). SendsListing means (ToldTable means c.args.vault c.args.board.now) c.args.board.now c.send_listing.new.board e) (sym c.ending_of.ensures)
    (listing_broken means (ToldTable means c.args.vault c.args.board.now) _ _ c.args.board.now c.send_listing.new.board c.in-Err.fault c.in-Err.ensures.err)

pub returns-clause-caused : goal.returns-clause-caused
returns-clause-caused g c =
    let means = g.B.Board.means in
    subst (λ (e : Ending). IsCaused means c.args.board.now c.send_listing.new.board e) (sym c.ending_of.ensures)
    (caused_broken means (ToldTable means c.args.vault c.args.board.now) _ _ c.args.board.now c.send_listing.new.board c.args.vault c.in-Err.fault c.in-Err.ensures.err c.in-Err.ensures.difference
    (λ flash. let held = c.requires.board.flash flash in (held.0, (flash, held.1))))

pub returns-clause-ends : goal.returns-clause-ends
returns-clause-ends g c = subst IsListed (sym c.ending_of.ensures) (broken_listed g.B.Board.means c.in-Err.fault)
