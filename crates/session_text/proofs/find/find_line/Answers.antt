use Rattle.std.proofs.Common.{◌≡◌, ◌≢◌, ◌+◌, ◌≤◌, [], true, false, length-append, length, take, List, ℕ, arith, ap, sym, subst, ◌∙◌, inl, inr}
use Rattle.std.proofs.lemmas.Bool.{false≢true}
use Rattle.std.proofs.lemmas.Bool.Decides.{nat_tests}
use Rattle.std.specs.Prelude.{Contains}
use Rattle.session_text.specs.Find.{IsFound, is_past}
use Rattle.session_text.proofs.Searches.{searched-some, searched-none, Gains-none, Gains-front}
use Rattle.session_text.proofs.find.find_line.Goals as goal

-- octets that begin a line that is too long are some
past_some : (room size : ℕ) → is_past room size ≡ true → size ≡ 0 → ⊥
past_some room size past none = grind (arith, nat_tests)

some : (room : ℕ) (held : List ℕ) → is_past room (length held) ≡ true → held ≢ []
some room held past empty = past_some room (length held) past (ap length empty)

short : (room seen : ℕ) → is_past room seen ≡ false → seen ≤ 131200
short room seen past = grind (arith, nat_tests)

-- they do not tell where the line ends
undecided : (room : ℕ) (held : List ℕ) → ¬ (Contains held 10) → is_past room (length held) ≡ false → ¬ (IsFound room held)
undecided room held none past (inl has) = none has
undecided room held none past (inr is) = false≢true (sym past ∙ is)

-- each take that gives octets is one of theirs
more_taken : (takes_first takes takes' held_first held held' count : ℕ) → held' ≡ held + count → (count ≡ 0 → ⊥)
    → takes + held_first ≤ takes_first + held → takes' ≤ takes + 1 → takes' + held_first ≤ takes_first + held'
more_taken takes_first takes takes' held_first held held' count grown some within one = omega arith

pub returns-in-Some-clause-found : goal.returns-in-Some-clause-found
returns-in-Some-clause-found g c =
    let known = c.takes.invariant in searched-some c.octets.result.now c.takes.held c.takes.seen c.in-Some.more c.octets.ensures.octets known.within known.unended c.in-Some.ensures

pub returns-then-is_past-clause-found : goal.returns-then-is_past-clause-found
returns-then-is_past-clause-found g c =
    let known = c.takes.invariant in
    let past : is_past c.args.room (length c.takes.held) ≡ true = ap (λ (l : List ℕ). is_past c.args.room (length l)) (sym c.octets-seen.ensures.octets) ∙ sym c.is_past.ensures ∙ c.if-is_past.true in (
      some c.args.room c.takes.held past,
      searched-none c.octets.result.now c.takes.held c.takes.seen c.octets.ensures.octets known.within known.unended c.in_default.ensures,
      past,
    )

pub returns-else-seen-eq0-clause-found : goal.returns-else-seen-eq0-clause-found
returns-else-seen-eq0-clause-found g c =
    let known = c.takes.invariant in
    let none = searched-none c.octets.result.now c.takes.held c.takes.seen c.octets.ensures.octets known.within known.unended c.in_default.ensures in
    let end = Gains-none _ _ _ _ _ _ c.in-Ok-eq0.ensures.gains c.in-Ok-eq0.field-0-test in (
      λ empty. c.if-seen-eq0.false (ap length (c.octets-seen.ensures.octets ∙ sym end.0 ∙ empty)),
      λ held. none (subst (λ (l : List ℕ). Contains l 10) end.0 held),
      ap length (c.octets-seen.ensures.octets ∙ sym end.0),
      λ told. end.1 (rw known.same told),
    )

pub takes-preserved : goal.takes-preserved
takes-preserved g c =
    let known = c.takes.invariant in
    let none = searched-none c.octets.result.now c.takes.held c.takes.seen c.octets.ensures.octets known.within known.unended c.in_default.ensures in
    let front = Gains-front _ _ _ _ _ _ c.in-Ok.ensures.gains in
    let seen : length c.octets-seen.result.now ≡ length c.takes.held = ap length c.octets-seen.ensures.octets in
    let past : is_past c.args.room (length c.takes.held) ≡ false = ap (λ (l : List ℕ). is_past c.args.room (length l)) (sym c.octets-seen.ensures.octets) ∙ sym c.is_past.ensures ∙ c.if-is_past.false in record {
      short = short c.args.room (length c.octets-seen.result.now) (sym c.is_past.ensures ∙ c.if-is_past.false);
      within = omega (arith, front.1);
      unended = λ held. none (subst (λ (l : List ℕ). Contains l 10) (ap (λ n. take n c.fill.new.self) seen ∙ front.0) held);
      holds = λ found. absurd (undecided c.args.room c.takes.held none past (known.holds found));
      still = λ found. absurd (undecided c.args.room c.takes.held none past (known.holds found));
      kept = λ found. absurd (undecided c.args.room c.takes.held none past (known.holds found));
      text = λ told. front.2 (rw known.same told) ∙ known.text told;
      same = c.fill.ensures.same ∙ known.same;
      faults = c.in-Ok.ensures.no_fault ∙ known.faults;
      takes_from = omega (arith, known.takes_from, c.fill.ensures.takes.0);
      takes_to =
          let gains = c.in-Ok.ensures.gains in
          more_taken _ _ _ _ (length c.takes.held) (length c.fill.new.self) c.in-Ok.field-0
          (omega (arith, ap length gains.behind, length-append c.takes.held gains.gained, gains.size)) c.in-Ok.field-0-test.1
          known.takes_to c.fill.ensures.takes.1;
    }

pub returns-in-Err-clause-found : goal.returns-in-Err-clause-found
returns-in-Err-clause-found g c =
    let known = c.takes.invariant in
    let none = searched-none c.octets.result.now c.takes.held c.takes.seen c.octets.ensures.octets known.within known.unended c.in_default.ensures in
    λ held. none (subst (λ (l : List ℕ). Contains l 10) c.in-Err.ensures.failed held)

pub returns-else-seen-eq0-clause-still : goal.returns-else-seen-eq0-clause-still
returns-else-seen-eq0-clause-still g c found =
    let known = c.takes.invariant in
    let none = searched-none c.octets.result.now c.takes.held c.takes.seen c.octets.ensures.octets known.within known.unended c.in_default.ensures in
    let past : is_past c.args.room (length c.takes.held) ≡ false = ap (λ (l : List ℕ). is_past c.args.room (length l)) (sym c.octets-seen.ensures.octets) ∙ sym c.is_past.ensures ∙ c.if-is_past.false in
    absurd (undecided c.args.room c.takes.held none past (known.holds found))

pub returns-then-seen-eq0-clause-still : goal.returns-then-seen-eq0-clause-still
returns-then-seen-eq0-clause-still g c found =
    let known = c.takes.invariant in
    let none = searched-none c.octets.result.now c.takes.held c.takes.seen c.octets.ensures.octets known.within known.unended c.in_default.ensures in
    let past : is_past c.args.room (length c.takes.held) ≡ false = ap (λ (l : List ℕ). is_past c.args.room (length l)) (sym c.octets-seen.ensures.octets) ∙ sym c.is_past.ensures ∙ c.if-is_past.false in
    absurd (undecided c.args.room c.takes.held none past (known.holds found))

pub returns-in-Err-clause-still : goal.returns-in-Err-clause-still
returns-in-Err-clause-still g c found =
    let known = c.takes.invariant in
    let none = searched-none c.octets.result.now c.takes.held c.takes.seen c.octets.ensures.octets known.within known.unended c.in_default.ensures in
    let past : is_past c.args.room (length c.takes.held) ≡ false = ap (λ (l : List ℕ). is_past c.args.room (length l)) (sym c.octets-seen.ensures.octets) ∙ sym c.is_past.ensures ∙ c.if-is_past.false in
    absurd (undecided c.args.room c.takes.held none past (known.holds found))
