use Rattle.std.proofs.Common.{ℕ, Bool, true, false, rules, List, [], Option, Some, Ok, Err, sym, ap, subst, arith}
use Rattle.std.specs.Prelude.{is_ok}
use Rattle.pst_model.specs.Rules.{Output, Retrieved, grant}
use Rattle.report_lines.proofs.Sendings.{lines_none}
use Rattle.report_lines.specs.Counting.{IsCountOf}
use Rattle.report_lines.specs.Sending.{BreaksIn, SendsLines}
use Rattle.retrieval.specs.Picks.{pick_of}
use Rattle.retrieval.specs.declared.pick.Pick.{Pick}
use Rattle.space_packet.specs.View.{octets_of}
use Rattle.space_packet.specs.declared.view.PacketView.{PacketView}
use Rattle.vault.specs.Granting.{IsGranted, IsNoneFor, SendsAnswer, sent_of}
use Rattle.vault.specs.Memory.{InMemory}
use Rattle.handler.proofs.Grants.{counted_retrieved, grant_failed, grant_made}
use Rattle.handler.proofs.InStep.{answers_done, answers_link, works_within}
use Rattle.handler.proofs.Retrieved.{reads_retrieved}
use Rattle.handler.specs.Carrying.{Answers, handler_of}
use Rattle.handler.specs.declared.fault.HandlerFault.{HandlerFault}
use Rattle.handler.proofs.granting.send_next.Goals as goal

pub returns-in-Err-clause-answers : goal.returns-in-Err-clause-answers
returns-in-Err-clause-answers g c =
    let means = g.B.Board.means in
    let old = c.args.board.now in
    let mid = c.grant.new.board in
    let vault = c.args.vault.now in
    let after = c.grant.follows.lender-at-none in
    subst (λ (fault : HandlerFault). Answers means old mid (handler_of vault true) (handler_of after false) (λ number table. grant number table) (Err fault))
    (sym c.fault_of.ensures)
    (grant_failed means old mid vault after c.in-Err.ensures.works c.in-Err.ensures.any_moment (Option (ℕ × PacketView)) c.in-Err.fault c.requires.board
    c.in-Err.ensures.cause c.in-Err.ensures.no_fault c.in-Err.ensures.mismatch c.in-Err.ensures.answer)

pub returns-in_default-clause-answers : goal.returns-in_default-clause-answers
returns-in_default-clause-answers g c =
    let means = g.B.Board.means in
    let old = c.args.board.now in
    let mid = c.grant.new.board in
    let vault = c.args.vault.now in
    let after = c.grant.follows.lender-at-none in
    let granted = subst (λ (is_open : Bool). IsGranted means old mid vault after is_open) (ap is_ok c.in-Ok.is) c.grant.follows.holds-at-none in
    let none = lines_none means mid (λ image told left. g.met.B.Board.images_now mid image told left) in
    let sent = c.default.result in
    let counted : IsCountOf [] sent = record { forwarded = omega arith; replies = omega arith; retrieved = omega arith; octets = omega arith } in
    answers_done means old mid mid vault after (λ number table. grant number table) c.requires.board
    (grant_made means old mid vault after c.in-Ok.ensures.works c.in-Ok.ensures.any_moment granted c.in-Ok.ensures.no_fault) sent [] none
    (λ told table number stands.
    subst (λ (outputs : List Output). SendsLines means mid mid outputs)
    (sym (subst (λ (next : Option (ℕ × PacketView)). SendsAnswer number table (Ok next)) c.in_default.is (c.in-Ok.ensures.answer told table number stands))) none)
    (λ told table number stands.
    subst (λ (outputs : List Output). IsCountOf outputs sent)
    (sym (subst (λ (next : Option (ℕ × PacketView)). SendsAnswer number table (Ok next)) c.in_default.is (c.in-Ok.ensures.answer told table number stands))) counted)

pub returns-in-Ok-send-clause-answers : goal.returns-in-Ok-send-clause-answers
returns-in-Ok-send-clause-answers g c =
    let means = g.B.Board.means in
    let old = c.args.board.now in
    let mid = c.grant.new.board in
    let new = c.send.new.board in
    let vault = c.args.vault.now in
    let after = c.grant.follows.lender-at-none in
    let channel = c.in-Some.channel in
    let packet = octets_of c.in-Some.packet in
    let granted = subst (λ (is_open : Bool). IsGranted means old mid vault after is_open) (ap is_ok c.in-Ok.is) c.grant.follows.holds-at-none in
    let sends = λ (number : ℕ). subst (λ (p : List ℕ). SendsLines means mid new (sent_of number channel p)) c.bytes.ensures.octets (c.in-Ok-send.ensures.sends number Retrieved) in
    let sent = record c.default-in-Ok-send.result { retrieved = 1; octets = c.from.result } in
    let counted = λ (number : ℕ). counted_retrieved number channel packet sent (omega arith) (omega arith) (omega arith) (search (rules, c.bytes.ensures.octets, c.from.ensures, c.in-Ok-send.ensures.octets)) in
    answers_done means old mid new vault after (λ number table. grant number table) c.requires.board
    (grant_made means old mid vault after c.in-Ok.ensures.works c.in-Ok.ensures.any_moment granted c.in-Ok.ensures.no_fault) sent (sent_of 0 channel packet) (sends 0)
    (λ told table number stands.
    subst (λ (outputs : List Output). SendsLines means mid new outputs)
    (sym (subst (λ (next : Option (ℕ × PacketView)). SendsAnswer number table (Ok next)) c.in-Some.is (c.in-Ok.ensures.answer told table number stands))) (sends number))
    (λ told table number stands.
    subst (λ (outputs : List Output). IsCountOf outputs sent)
    (sym (subst (λ (next : Option (ℕ × PacketView)). SendsAnswer number table (Ok next)) c.in-Some.is (c.in-Ok.ensures.answer told table number stands))) (counted number))

pub returns-in-Ok-send-clause-work : goal.returns-in-Ok-send-clause-work
returns-in-Ok-send-clause-work g c = works_within c.in-Ok.ensures.works.work (c.in-Ok-send.ensures.sends 0 Retrieved).work

pub returns-in-Err-send-clause-answers : goal.returns-in-Err-send-clause-answers
returns-in-Err-send-clause-answers g c =
    let means = g.B.Board.means in
    let old = c.args.board.now in
    let mid = c.grant.new.board in
    let new = c.send.new.board in
    let vault = c.args.vault.now in
    let after = c.grant.follows.lender-at-none in
    let channel = c.in-Some.channel in
    let packet = octets_of c.in-Some.packet in
    let granted = subst (λ (is_open : Bool). IsGranted means old mid vault after is_open) (ap is_ok c.in-Ok.is) c.grant.follows.holds-at-none in
    let breaks = λ (number : ℕ). subst (λ (p : List ℕ). BreaksIn means mid new (sent_of number channel p)) c.bytes.ensures.octets (c.in-Err-send.ensures.breaks number Retrieved) in
    answers_link means old mid new vault after (λ number table. grant number table) c.requires.board
    (grant_made means old mid vault after c.in-Ok.ensures.works c.in-Ok.ensures.any_moment granted c.in-Ok.ensures.no_fault) (sent_of 0 channel packet) (breaks 0)
    (λ told table number stands.
    subst (λ (outputs : List Output). BreaksIn means mid new outputs)
    (sym (subst (λ (next : Option (ℕ × PacketView)). SendsAnswer number table (Ok next)) c.in-Some.is (c.in-Ok.ensures.answer told table number stands))) (breaks number))

pub returns-in-Err-send-clause-work : goal.returns-in-Err-send-clause-work
returns-in-Err-send-clause-work g c = works_within c.in-Ok.ensures.works.work (c.in-Err-send.ensures.breaks 0 Retrieved).work

pub returns-in-Err-clause-nothing : goal.returns-in-Err-clause-nothing
returns-in-Err-clause-nothing g c none =
    absurd (subst (λ (picked : Option Pick). IsNoneFor {A = ℕ × PacketView} picked (Err c.in-Err.fault)) none c.in-Err.ensures.none)

pub returns-in-Err-clause-lasts : goal.returns-in-Err-clause-lasts
returns-in-Err-clause-lasts g c = ap (λ (v : InMemory). v.lasts) c.grant.follows.holds-at-none.others

pub returns-in_default-clause-room : goal.returns-in_default-clause-room
returns-in_default-clause-room g c pick picked = c.grant.follows.holds-at-none.room pick picked (ap is_ok c.in-Ok.is)

pub returns-in_default-clause-nothing : goal.returns-in_default-clause-nothing
returns-in_default-clause-nothing g c none = (c.in-Ok.ensures.nothing none, c.grant.follows.holds-at-none.none none)

pub returns-in_default-clause-lasts : goal.returns-in_default-clause-lasts
returns-in_default-clause-lasts g c = ap (λ (v : InMemory). v.lasts) c.grant.follows.holds-at-none.others

pub returns-in-Ok-send-clause-room : goal.returns-in-Ok-send-clause-room
returns-in-Ok-send-clause-room g c pick picked = c.grant.follows.holds-at-none.room pick picked (ap is_ok c.in-Ok.is)

pub returns-in-Ok-send-clause-nothing : goal.returns-in-Ok-send-clause-nothing
returns-in-Ok-send-clause-nothing g c none =
    let picked = pick_of c.args.vault.now.directory.stores in
    let some = subst (λ (next : Option (ℕ × PacketView)). IsNoneFor {A = ℕ × PacketView} picked (Ok next)) c.in-Some.is c.in-Ok.ensures.none in
    absurd (subst (λ (p : Option Pick). IsNoneFor {A = ℕ × PacketView} p (Ok (Some (c.in-Some.channel, c.in-Some.packet)))) none some)

pub returns-in-Ok-send-clause-lasts : goal.returns-in-Ok-send-clause-lasts
returns-in-Ok-send-clause-lasts g c = ap (λ (v : InMemory). v.lasts) c.grant.follows.holds-at-none.others

pub returns-in-Err-send-clause-nothing : goal.returns-in-Err-send-clause-nothing
returns-in-Err-send-clause-nothing g c none =
    let picked = pick_of c.args.vault.now.directory.stores in
    let some = subst (λ (next : Option (ℕ × PacketView)). IsNoneFor {A = ℕ × PacketView} picked (Ok next)) c.in-Some.is c.in-Ok.ensures.none in
    absurd (subst (λ (p : Option Pick). IsNoneFor {A = ℕ × PacketView} p (Ok (Some (c.in-Some.channel, c.in-Some.packet)))) none some)

pub returns-in-Err-send-clause-lasts : goal.returns-in-Err-send-clause-lasts
returns-in-Err-send-clause-lasts g c = ap (λ (v : InMemory). v.lasts) c.grant.follows.holds-at-none.others

pub returns-in-Err-clause-reads : goal.returns-in-Err-clause-reads
returns-in-Err-clause-reads g c table number stands =
    reads_retrieved c.args.vault.now (g.B.Board.means.flash c.args.board.now) table number c.requires.ready.sound stands

pub returns-in_default-clause-reads : goal.returns-in_default-clause-reads
returns-in_default-clause-reads g c table number stands =
    reads_retrieved c.args.vault.now (g.B.Board.means.flash c.args.board.now) table number c.requires.ready.sound stands

pub returns-in-Ok-send-clause-reads : goal.returns-in-Ok-send-clause-reads
returns-in-Ok-send-clause-reads g c table number stands =
    reads_retrieved c.args.vault.now (g.B.Board.means.flash c.args.board.now) table number c.requires.ready.sound stands

pub returns-in-Err-send-clause-reads : goal.returns-in-Err-send-clause-reads
returns-in-Err-send-clause-reads g c table number stands =
    reads_retrieved c.args.vault.now (g.B.Board.means.flash c.args.board.now) table number c.requires.ready.sound stands
