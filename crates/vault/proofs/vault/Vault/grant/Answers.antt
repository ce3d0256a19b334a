use Rattle.std.proofs.Common.{ℕ, Ok, Option, refl, sym, ◌∙◌, ap, subst}
use Rattle.std.specs.Prelude.{IfSome}
use Rattle.board.proofs.Works.{tells_too}
use Rattle.record_view.specs.Records.{Meaning}
use Rattle.retrieval.specs.Picks.{pick_of}
use Rattle.space_packet.specs.Packet.{IsPacket}
use Rattle.space_packet.specs.declared.view.PacketView.{PacketView}
use Rattle.vault.proofs.GrantAnswers.{err_too, flash_too, granted_holds, none_too, sends_too, some_too, unless_too}
use Rattle.vault.specs.Granting.{IsChannel, IsNoneFor, SendsHeld, sent_of}
use Rattle.vault.proofs.vault.Vault.grant.Goals as goal

pub returns-in-Ok-Some : goal.returns-in-Ok-Some
returns-in-Ok-Some g c =
    let means = g.B.Board.means in
    let old = c.args.board.now in
    let new = c.send_next.new.board in
    let vault = c.args.self.now in
    let same = sym c.held.ensures.same in (
      (refl, (λ _. tt), c.in-Ok-Some.ensures.granted),
      record {
        any_moment = c.in-Ok-Some.ensures.any_moment;
        holds = λ told table number stands image left.
            granted_holds means old new vault c.send_next.new.self table number image c.in-Ok-Some.ensures.granted told c.requires.blocks
            c.in-Ok-Some.ensures.works.same stands
            (g.met.B.Board.images_now new image (tells_too c.in-Ok-Some.ensures.works.same told) left);
        answer = λ told table number stands.
            subst (λ (o : Option ℕ). SendsHeld number table (Ok o) c.send_next.new.self.held.packet) c.in-Ok-Some.field-0-is
            (c.in-Ok-Some.ensures.sends told table number stands)
            ∙ ap (λ (m : Meaning). sent_of number c.in-Ok-Some.channel m.packet) same;
        moves = tt;
        none =
            some_too (pick_of vault.directory.stores) c.in-Ok-Some.channel (c.in-Ok-Some.channel, c.held.result.packet)
            (subst (λ (o : Option ℕ). IsNoneFor (pick_of vault.directory.stores) (Ok o)) c.in-Ok-Some.field-0-is c.in-Ok-Some.ensures.none);
        nothing = c.in-Ok-Some.ensures.nothing;
        channel = subst (λ (o : Option ℕ). IfSome o IsChannel) c.in-Ok-Some.field-0-is c.in-Ok-Some.ensures.channel;
        packet =
            subst (λ (m : Meaning). IsPacket m.packet) same
            (subst (λ (o : Option ℕ). IfSome o (λ _. IsPacket c.send_next.new.self.held.packet)) c.in-Ok-Some.field-0-is c.in-Ok-Some.ensures.packet);
        mismatch = tt;
        works = c.in-Ok-Some.ensures.works;
        no_fault = c.in-Ok-Some.ensures.no_fault;
        cause = tt;
      },
    )

pub returns-in-Ok-None : goal.returns-in-Ok-None
returns-in-Ok-None g c =
    let means = g.B.Board.means in
    let old = c.args.board.now in
    let new = c.send_next.new.board in
    let vault = c.args.self.now in (
      (refl, (λ _. tt), c.in-Ok-None.ensures.granted),
      record {
        any_moment = c.in-Ok-None.ensures.any_moment;
        holds = λ told table number stands image left.
            granted_holds means old new vault c.send_next.new.self table number image c.in-Ok-None.ensures.granted told c.requires.blocks
            c.in-Ok-None.ensures.works.same stands
            (g.met.B.Board.images_now new image (tells_too c.in-Ok-None.ensures.works.same told) left);
        answer = λ told table number stands.
            subst (λ (o : Option ℕ). SendsHeld number table (Ok o) c.send_next.new.self.held.packet) c.in-Ok-None.field-0-is
            (c.in-Ok-None.ensures.sends told table number stands);
        moves = tt;
        none =
            none_too ℕ (ℕ × PacketView) (pick_of vault.directory.stores)
            (subst (λ (o : Option ℕ). IsNoneFor (pick_of vault.directory.stores) (Ok o)) c.in-Ok-None.field-0-is c.in-Ok-None.ensures.none);
        nothing = c.in-Ok-None.ensures.nothing;
        channel = tt;
        packet = tt;
        mismatch = tt;
        works = c.in-Ok-None.ensures.works;
        no_fault = c.in-Ok-None.ensures.no_fault;
        cause = tt;
      },
    )

pub returns-in-Err : goal.returns-in-Err
returns-in-Err g c =
    let vault = c.args.self.now in
    let fault = c.in-Err.fault in (
      (refl, (λ _. tt), c.in-Err.ensures.granted),
      record {
        any_moment = c.in-Err.ensures.any_moment;
        holds = tt;
        answer = λ told table number stands. sends_too number table fault c.send_next.new.self.held.packet (c.in-Err.ensures.sends told table number stands);
        moves = tt;
        none = err_too ℕ (ℕ × PacketView) (pick_of vault.directory.stores) fault c.in-Err.ensures.none;
        nothing = c.in-Err.ensures.nothing;
        channel = tt;
        packet = tt;
        mismatch = c.in-Err.ensures.mismatch;
        works = c.in-Err.ensures.works;
        no_fault = unless_too (Option ℕ) (Option (ℕ × PacketView)) fault _ c.in-Err.ensures.no_fault;
        cause = flash_too (Option ℕ) (Option (ℕ × PacketView)) fault _ c.in-Err.ensures.cause;
      },
    )
