-- The start of a programme: the state after the list of one call that chooses it. Assumes nothing.
use Prim.Native.Nat.{ℕ, ◌<◌}
use mathlib.Core.Path.{◌≡◌, ap, subst, ◌∙◌}
use mathlib.Core.Bool.{true}
use mathlib.Core.List.{List, [], ◌∷◌}
use mathlib.Core.Logic.{◌⊎◌, ⊎_elim}
use native.Mathlib.Omega.{arith}
use borrow.Author.Tests.{lt-leb}
use Rattle.std.specs.Prelude.{Ok}
use Rattle.sheet.specs.Words.{Sheet}
use Rattle.sheet.specs.Layout.{level, count}
use Rattle.sheet.specs.Fields.{programmes}
use Rattle.profile.specs.declared.Verdict.TheVariants.{Accepted}
use Rattle.profile.specs.Verdict.{verdict}
use Rattle.profile.proofs.AcceptedLaws.{accepted_sheet}
use Rattle.listener.specs.declared.State.{State}
use Rattle.listener.specs.Programme.{started}
use Rattle.listener.specs.Calls.{Answer, opens, answer_by, reply_by, opened, no_programme, programme_answer, chosen_programme}
use Rattle.guarantee.specs.Run.{reply, run, after, chosen, last_chosen}
use Rattle.guarantee.specs.Run.Call.{programme}
use Rattle.guarantee.specs.Guarantee.{Promises}
use Rattle.guarantee.proofs.OpenLaws.{opens_accepted, few_objects}
use Rattle.guarantee.proofs.RunLaws.{passes, opened_kept}
use Rattle.guarantee.proofs.Guaranteed.{listening}

module _ (s : Sheet) (langs : List ℕ) (accepted : verdict s langs ≡ Accepted) (at : (level s ≡ 1) ⊎ (level s ≡ 2)) where
  pub accepted_opens : opens s langs ≡ true
  accepted_opens = opens_accepted s langs accepted (λ e. ⊎_elim (λ q. omega arith) (λ q. omega arith) at)

  module _ (p : ℕ) (there : p < count s programmes) where
    choice_done : programme_answer s langs (opened s langs).state p ≡ Ok tt
    unfolding programme_answer answer_by no_programme
    choice_done =
        let a = accepted_sheet s langs accepted in
        let few = few_objects s langs accepted_opens in
        passes s langs a few accepted_opens (opened s langs).state (no_programme s p ∷ []) (opened_kept s langs a few accepted_opens).good
        ∙ rw (lt-leb (count s programmes) p there)

    chosen_start : after s langs (programme p ∷ []) ≡ started s p
    unfolding after run reply chosen_programme reply_by
    chosen_start = ap (λ (a : Answer). (reply_by a (opened s langs).state (started s p)).state) choice_done

    chosen_last : last_chosen s langs (programme p ∷ []) ≡ p
    unfolding last_chosen chosen
    chosen_last = rw choice_done

    -- demand 3 of a programme's start
    pub start_promises : Promises s langs p (started s p)
    start_promises =
        subst (λ (st : State). Promises s langs p st) chosen_start
        (subst (λ (q : ℕ). Promises s langs q (after s langs (programme p ∷ []))) chosen_last (listening s langs accepted at (programme p ∷ [])).promises)
