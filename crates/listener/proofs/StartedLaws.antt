-- The listing of a programme's start in the steps of the code. Assumes nothing.
use Prim.Native.Nat.{ℕ, ◌<◌, ◌≤◌}
use mathlib.Core.Path.{◌≡◌, refl}
use mathlib.Core.Bool.{true, false}
use mathlib.Core.List.{List, [], ◌∷◌}
use borrow.Author.Tests.{le-leb, lt-leb}
use Rattle.std.specs.Prelude.{Err}
use Rattle.sheet.specs.Words.{Sheet}
use Rattle.sheet.specs.Layout.{count}
use Rattle.sheet.specs.Fields.{programmes}
use Rattle.listener.specs.declared.Refusal.TheVariants.{NotAccepted, NoProgramme}
use Rattle.listener.specs.Programme.{started}
use Rattle.listener.specs.Calls.{opens, answer_by, not_open, no_programme}
use Rattle.listener.specs.Listing.{too_few_words}
use Rattle.listener.specs.StartListing.{start_answer}

module _ (s : Sheet) (langs : List ℕ) (p words : ℕ) where
  pub start_closed : opens s langs ≡ false → start_answer s langs p words ≡ Err NotAccepted
  unfolding start_answer answer_by not_open
  start_closed e = rw e refl

  pub start_missing : opens s langs ≡ true → count s programmes ≤ p → start_answer s langs p words ≡ Err NoProgramme
  unfolding start_answer answer_by not_open no_programme
  start_missing e l = rw (e, le-leb _ _ l) refl

  pub start_steps : opens s langs ≡ true → p < count s programmes → start_answer s langs p words ≡ answer_by (too_few_words s (started s p) words ∷ [])
  unfolding start_answer answer_by not_open no_programme
  start_steps e l = rw (e, lt-leb _ _ l) refl
