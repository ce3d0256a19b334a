-- Traffic that was carried out, and the line that sums it up.
use Rattle.std.proofs.Common.{◌≡◌, ◌≢◌, ◌≤◌, ◌⊎◌, inl, inr, ℕ, ◌+◌, List, [], ◌++◌, refl, sym, ◌∙◌, ap, subst, arith}
use Rattle.std.proofs.lemmas.List.{append-nil}
use Rattle.board.specs.Device.{Device}
use Rattle.board.specs.Flash.{Flash, IsImage}
use Rattle.board.specs.Meaning.{BoardMeaning, TellsFlash, TellsLink}
use Rattle.board.specs.Moments.{GainsFront}
use Rattle.board.specs.Reads.{FlashStays}
use Rattle.board.specs.Touches.{Touches}
use Rattle.board.proofs.Runs.{links_too}
use Rattle.board.proofs.Stops.{goes_on}
use Rattle.board.proofs.Works.{tells_too}
use Rattle.image_table.specs.Standing.{HoldsTable}
use Rattle.meta_journal.specs.Halves.{format_pages}
use Rattle.pst_model.specs.Command.{Command}
use Rattle.pst_model.specs.Run.{run}
use Rattle.pst_model.specs.Table.{Table, after_format}
use Rattle.station.specs.declared.ending.Ending.{Ending}
use Rattle.station.specs.declared.ending.Ending.TheVariants.{Done, FlashFault, LinkFault}
use Rattle.station.specs.declared.tally.Tally.{Tally}
use Rattle.station.specs.Generating.{CarriesTraffic, EndsTraffic, Generates, IsUnsent, LinkStays, SendsSummary, SummarySent, TrafficDone, TrafficHeld, TrafficSent}
use Rattle.station.specs.Session.{HoldsAll}
use Rattle.station.specs.Summary.{summary_line}
use Rattle.station.specs.Turns.{HoldsPrefix}
use Rattle.station.proofs.Since.{caused_since}
use Rattle.station.proofs.Turns.{prefix_done}

module _ {B : Type 0} (means : BoardMeaning B) (commands : List Command) (old mid : B) where
  abbrev blocks : ℕ
  blocks = (means.device old).blocks

  -- the table after all commands
  abbrev last : Table
  last = (run blocks after_format commands).table

  -- the line was sent, or the link failed within it
  pub traffic_summed : (new : B) (ending : Ending) (tally : Tally) → CarriesTraffic means commands old mid Done tally → SendsSummary means tally mid new ending
      → TrafficSent means commands old new ending
  traffic_summed new ending tally carries sends = record {
    on_table = λ flash held.
        let on = carries.on_table flash held in
        let stays = sends.stays (tells_too carries.same flash) in
        let all = held_on on.held stays in
        record {
          prefix = goes_on means old mid new _ _ on.prefix stays.leaves (λ image is. prefix_last image (on.held.later image (here image is)));
          held = ends_held ending sends.ends all;
          tally = tally;
          counted = λ is. on.counted refl;
          sent = λ link. ends_sent ending sends.ends (sends.moments (links_too carries.same link)).later link;
        };
    ends = ends_so sends.ends;
    calls = subst (λ (n : ℕ). (means.counts new).sends ≤ n + 1) carries.unsent.sends sends.calls;
    caused = caused_since means old mid new ending (carries.caused.flash_kept (λ is. cc)) (carries.caused.link_kept (λ is. cc)) carries.same sends.caused;
    same = sends.same ∙ carries.same;
  }
    where
      many : (means.device mid).blocks ≡ blocks
      many = ap (λ (device : Device). device.blocks) carries.same

      here : (image : ℕ → List ℕ) → IsImage (means.device mid).blocks (means.flash mid) image → IsImage blocks (means.flash mid) image
      here image is = subst (λ (n : ℕ). IsImage n (means.flash mid) image) many is

      prefix_last : (image : ℕ → List ℕ) → HoldsTable blocks last image → HoldsPrefix blocks after_format commands image
      prefix_last image holds = subst (λ (cs : List Command). HoldsPrefix blocks after_format cs image) (append-nil commands) (prefix_done blocks after_format commands [] image holds)

      held_on : HoldsAll means blocks last mid → FlashStays means mid new → HoldsAll means blocks last new
      held_on holds stays = record {
        content = subst (λ (flash : Flash). HoldsTable blocks last flash.content) (sym stays.flash) holds.content;
        leaves = λ image left. holds.later image (here image (stays.leaves.each (means.moment new) image stays.leaves.later (omega arith) left));
        later = λ image is. holds.later image (subst (λ (flash : Flash). IsImage blocks flash image) stays.flash is);
      }

      ends_held : (e : Ending) → (e ≡ Done) ⊎ (e ≡ LinkFault) → HoldsAll means blocks last new → EndsTraffic means blocks commands new e
      ends_held e (inl is) holds = subst (EndsTraffic means blocks commands new) (sym is) holds
      ends_held e (inr is) holds = subst (EndsTraffic means blocks commands new) (sym is) holds

      ends_so : (ending ≡ Done) ⊎ (ending ≡ LinkFault) → (ending ≡ Done) ⊎ (ending ≡ LinkFault) ⊎ (IsUnsent ending × LinkStays means old new)
      ends_so (inl is) = inl is
      ends_so (inr is) = inr (inl is)

      ends_sent : (e : Ending) → (ending ≡ Done) ⊎ (ending ≡ LinkFault) → means.moment mid ≤ means.moment new → TellsLink means old → SummarySent means tally old new ending
      ends_sent e (inl is) later link =
          subst (SummarySent means tally old new) (sym is)
          (sends.whole is (links_too carries.same link) ∙ ap (λ (octets : List ℕ). octets ++ summary_line tally) (carries.unsent.sent link))
      ends_sent e (inr is) later link =
          subst (SummarySent means tally old new) (sym is)
          (subst (λ (octets : List ℕ). GainsFront octets (summary_line tally) (means.sent new (means.moment new))) (carries.unsent.sent link)
          ((sends.moments (links_too carries.same link)).each (means.moment new) later (omega arith)))

  -- the traffic ended early, and no line was sent
  pub traffic_broken : (ending : Ending) (tally : Tally) → ending ≢ Done → CarriesTraffic means commands old mid ending tally → TrafficSent means commands old mid ending
  traffic_broken ending tally undone carries = record {
    on_table = λ flash held.
        let on = carries.on_table flash held in
        record {
          prefix = on.prefix;
          held = ends_held ending unsent on.held;
          tally = tally;
          counted = λ is. absurd (not_counted is);
          sent = λ link. ends_sent ending unsent (carries.unsent.sent link);
        };
    ends = inr (inr (unsent, carries.unsent));
    calls = omega (arith, carries.unsent.sends);
    caused = carries.caused;
    same = carries.same;
  }
    where
      unsent : IsUnsent ending
      unsent = by carries.ends
        where
          by : (ending ≡ Done) ⊎ IsUnsent ending → IsUnsent ending
          by (inl is) = absurd (undone is)
          by (inr is) = is

      no_link : IsUnsent ending → ending ≡ LinkFault → ⊥
      no_link (inl is) link = cc
      no_link (inr (inl is)) link = cc
      no_link (inr (inr (inl is))) link = cc
      no_link (inr (inr (inr (block, page, kept, found, is)))) link = cc

      not_counted : (ending ≡ Done) ⊎ (ending ≡ LinkFault) → ⊥
      not_counted (inl is) = undone is
      not_counted (inr is) = no_link unsent is

      ends_held : (e : Ending) → IsUnsent e → TrafficHeld means blocks commands mid e → EndsTraffic means blocks commands mid e
      ends_held e (inl is) held = subst (EndsTraffic means blocks commands mid) (sym is) (subst (TrafficHeld means blocks commands mid) is held)
      ends_held e (inr (inl is)) held = subst (EndsTraffic means blocks commands mid) (sym is) (subst (TrafficHeld means blocks commands mid) is held)
      ends_held e (inr (inr (inl is))) held = subst (EndsTraffic means blocks commands mid) (sym is) (subst (TrafficHeld means blocks commands mid) is held)
      ends_held e (inr (inr (inr (block, page, kept, found, is)))) held =
          subst (EndsTraffic means blocks commands mid) (sym is) (subst (TrafficHeld means blocks commands mid) is held)

      ends_sent : (e : Ending) → IsUnsent e → means.sent mid (means.moment mid) ≡ means.sent old (means.moment old) → SummarySent means tally old mid e
      ends_sent e (inl is) same = subst (SummarySent means tally old mid) (sym is) same
      ends_sent e (inr (inl is)) same = subst (SummarySent means tally old mid) (sym is) same
      ends_sent e (inr (inr (inl is))) same = subst (SummarySent means tally old mid) (sym is) same
      ends_sent e (inr (inr (inr (block, page, kept, found, is)))) same = subst (SummarySent means tally old mid) (sym is) same

module _ {B : Type 0} (means : BoardMeaning B) (commands : List Command) (old begun new : B) (ending : Ending)
    (touches : Touches means format_pages 12 5 8 old begun) where
  still : TellsLink means old → means.sent begun (means.moment begun) ≡ means.sent old (means.moment old)
  still link = let none = touches.unsent link in none.each (means.moment begun) none.later (omega arith)

  -- behind a format
  pub generated : (TellsFlash means old → HoldsAll means (means.device old).blocks after_format begun) → TrafficSent means commands begun new ending
      → Generates means commands old new ending
  generated holds sent = record {
    begins = λ flash. inl (record {
      begun = begun;
      later = (touches.leaves flash).later;
      formatted = holds flash;
      unsent = touches.unsent;
      uncalled = touches.work.sends;
      traffic = subst (λ (n : ℕ). TrafficDone means n commands begun new ending) many
          (sent.on_table (tells_too touches.same flash) (subst (λ (n : ℕ). HoldsTable n after_format (means.flash begun).content) (sym many) (holds flash).content));
    });
    ends = ends_so sent.ends;
    calls = subst (λ (n : ℕ). (means.counts new).sends ≤ n + 1) touches.work.sends sent.calls;
  }
    where
      many : (means.device begun).blocks ≡ (means.device old).blocks
      many = ap (λ (device : Device). device.blocks) touches.same

      ends_so : (ending ≡ Done) ⊎ (ending ≡ LinkFault) ⊎ (IsUnsent ending × LinkStays means begun new)
          → (ending ≡ Done) ⊎ (ending ≡ LinkFault) ⊎ (IsUnsent ending × ((means.counts new).sends ≡ (means.counts old).sends)
          × (TellsLink means old → means.sent new (means.moment new) ≡ means.sent old (means.moment old)))
      ends_so (inl is) = inl is
      ends_so (inr (inl is)) = inr (inl is)
      ends_so (inr (inr (is, stays))) = inr (inr (is, stays.sends ∙ touches.work.sends, λ link. stays.sent (links_too touches.same link) ∙ still link))

-- the format failed
pub not_generated : {B : Type 0} (means : BoardMeaning B) (commands : List Command) (old new : B) → Touches means format_pages 12 5 8 old new → Generates means commands old new FlashFault
not_generated means commands old new touches = record {
  begins = λ flash. inr (record {
    failed = refl;
    unsent = touches.unsent;
    uncalled = touches.work.sends;
    programs = touches.work.programs_to;
  });
  ends = inr (inr (inl refl, touches.work.sends, λ link. let none = touches.unsent link in none.each (means.moment new) none.later (omega arith)));
  calls = omega (arith, touches.work.sends);
}
