-- Rule 20: the two figures of a sheet that it refuses stand in the sheet or follow from it, and differ. Assumes nothing.
use Prim.Native.Nat.{ℕ, ◌+◌, ◌<◌}
use mathlib.Core.Path.{◌≡◌, refl, sym, ap, ◌∙◌}
use mathlib.Core.Bool.{Bool, true, false, not, ◌||◌}
use mathlib.Core.Logic.{◌⊎◌, inl, inr, ⊎_elim}
use native.Mathlib.Omega.{arith}
use mathlib.Core.List.{List, [], ◌∷◌}
use lib.Dec.{eqb}
use lib.IntN.{pos}
use borrow.Author.Tests.{eq-eqb, not-true, both_ways}
use Rattle.std.specs.Prelude.{Some, is_some, IfSome}
use Rattle.sheet.specs.Words.{Sheet, word}
use Rattle.sheet.specs.Layout.{count, field, number, entry}
use Rattle.sheet.specs.Fields.{objects, complement_list, interact}
use Rattle.values.specs.Signed.{signed_of, word_of}
use Rattle.values.proofs.Words.{word_of_signed}
use Rattle.profile.specs.declared.Place.{Place}
use Rattle.profile.specs.declared.Place.TheVariants.{Object}
use Rattle.profile.specs.declared.Verdict.TheVariants.{Broken}
use Rattle.profile.specs.Counting.{any}
use Rattle.profile.specs.Relations.{kind}
use Rattle.profile.specs.Rules.{rule20, differs}
use Rattle.profile.specs.Verdict.{section_of, record_of, verdict, breaks, subjects, subject_kind}
use Rattle.profile.specs.FirstBroken.{BrokenAt}
use Rattle.profile.proofs.BoolLaws.{or_either}
use Rattle.profile.proofs.SumLaws.{any_one}
use Rattle.profile.proofs.GroupLaws.{any_witness}
use Rattle.profile.proofs.VerdictLaws.{broken_first}
use Rattle.figures.specs.declared.FigureNumber.TheVariants.{Derived}
use Rattle.figures.specs.declared.Clash.{Clash}
use Rattle.figures.specs.Clashes.{printed}
use Rattle.figures.specs.Members.{compared_at, compared_count, word_clash, kind_clash, word_clashes, member_clash, leader_clash}
use Rattle.figures.specs.Figures.{figures_of, figures}
use Rattle.figures.specs.Promises.{Stands, MemberDiffers}
use Rattle.figures.proofs.FoundLaws.{any_eq, clash_found, first_found, second_found, below_found, earlier_keeps, below_keeps, clash_keeps, Found, found, if_some, told_figures, broken_figures}
use Rattle.figures.proofs.KeptLaws.{complement_index, five_twenty}

-- Two figures of a leader l and a member q that differ
record Differ (s : Sheet) (l q : ℕ) (x : Clash) : Type 0 where
  leader_of_lem : (x.first.section ≡ objects) × (x.first.index ≡ l)
  member_of : (x.second.section ≡ objects) × (x.second.index ≡ q)
  same_word : ((i : ℕ) × ((i < compared_count) × (Stands s x.first (compared_at i) × Stands s x.second (compared_at i))))
      ⊎ ((x.first.number ≡ Derived (kind s x.first.index)) × (x.second.number ≡ Derived (kind s x.second.index)))
  unequal : printed x.first.number ≡ printed x.second.number → ⊥

-- unequal words are unequal as signed numbers
unequal_words : (w x : ℕ) → w < 65536 → x < 65536 → not (eqb w x) ≡ true → signed_of w ≡ signed_of x → ⊥
unequal_words w x l m e h =
    let same : w ≡ x = sym (word_of_signed w l) ∙ ap word_of h ∙ word_of_signed x m in
    both_ways (eqb w x) (not-true _ e) (eq-eqb w x same)

unequal_numbers : (w x : ℕ) → not (eqb w x) ≡ true → pos w ≡ pos x → ⊥
unequal_numbers w x e h =
    let same : w ≡ x = cc in
    both_ways (eqb w x) (not-true _ e) (eq-eqb w x same)

-- the order of the words makes no difference
turn : (x c d e : Bool) → (x || c || d || e) ≡ (x || e || c || d)
turn true c d e = refl
turn false true true true = refl
turn false true true false = refl
turn false true false true = refl
turn false true false false = refl
turn false false true true = refl
turn false false true false = refl
turn false false false true = refl
turn false false false false = refl

-- the seven words from interact on are the words that are compared
seven : (p : ℕ → Bool) → any (λ f. p (interact + f)) 7 ≡ any (λ i. p (compared_at i)) compared_count
unfolding any
seven p = ap (λ (t : Bool). t || p 12 || p 13) (turn (p 7 || p 8) (p 9) (p 10) (p 11))

module _ (s : Sheet) (fit : (i : ℕ) → word s i < 65536) (l q : ℕ) (m : l < count s objects) (n : q < count s objects) where
  word_differs : (i : ℕ) → i < compared_count → IfSome (word_clash s l q (compared_at i)) (Differ s l q)
  unfolding word_clash
  word_differs i k =
      clash_keeps (Differ s l q) _ _ _ (λ e.
      record {
        leader_of_lem = (refl, refl);
        member_of = (refl, refl);
        same_word = inl (i, (k, (record { inside = m; word = refl }, record { inside = n; word = refl })));
        unequal = unfold field in unequal_words _ _ (fit _) (fit _) e;
      })

  kind_differs : IfSome (kind_clash s l q) (Differ s l q)
  unfolding kind_clash
  kind_differs =
      clash_keeps (Differ s l q) _ _ _ (λ e.
      record {
        leader_of_lem = (refl, refl);
        member_of = (refl, refl);
        same_word = inr (refl, refl);
        unequal = unequal_numbers _ _ e;
      })

  clash_differs : IfSome (member_clash s l q) (Differ s l q)
  unfolding member_clash word_clashes
  clash_differs = earlier_keeps (Differ s l q) _ _ (below_keeps (Differ s l q) (λ i. word_clash s l q (compared_at i)) compared_count word_differs) kind_differs

module _ (s : Sheet) where
  -- a leader and a member that differ have a clash
  words_found : (l q : ℕ) → any (λ f. not (eqb (field s objects l (interact + f)) (field s objects q (interact + f)))) 7 ≡ true → is_some (word_clashes s l q) ≡ true
  unfolding word_clash word_clashes
  words_found l q h =
      below_found (λ i. word_clash s l q (compared_at i)) compared_count
      ∙ any_eq (λ i. is_some (word_clash s l q (compared_at i))) (λ i. not (eqb (field s objects l (compared_at i)) (field s objects q (compared_at i)))) compared_count (λ i. clash_found _ _ _)
      ∙ sym (seven (λ at. not (eqb (field s objects l at) (field s objects q at)))) ∙ h

  kind_found : (l q : ℕ) → not (eqb (kind s l) (kind s q)) ≡ true → is_some (kind_clash s l q) ≡ true
  unfolding kind_clash
  kind_found l q h = clash_found _ _ _ ∙ h

  differs_found : (l q : ℕ) → differs s l q ≡ true → is_some (member_clash s l q) ≡ true
  unfolding differs member_clash
  differs_found l q e =
      ⊎_elim (λ h. first_found _ _ (words_found l q h)) (λ h. second_found _ _ (kind_found l q h))
      (or_either (any (λ f. not (eqb (field s objects l (interact + f)) (field s objects q (interact + f)))) 7) (not (eqb (kind s l) (kind s q))) e)

  -- so has a leader that breaks rule 20
  leader_found : (section l : ℕ) → rule20 s section l ≡ true → is_some (leader_clash s l) ≡ true
  unfolding rule20 leader_clash
  leader_found section l e =
      let w = any_witness (λ i. differs s l (entry s objects l complement_list i)) (number s objects l complement_list) e in
      below_found (λ i. member_clash s l (entry s objects l complement_list i)) (number s objects l complement_list)
      ∙ any_one (λ i. is_some (member_clash s l (entry s objects l complement_list i))) (number s objects l complement_list) w.0 w.1 (differs_found l (entry s objects l complement_list w.0) w.2)

-- a place that rule 20 can have
object_place : (s : Sheet) (place : Place) → record_of place < subjects s 20 (section_of place) → record_of place < count s objects
unfolding subjects subject_kind
object_place s (Object k) l = l
object_place s place l = absurd (omega arith)

rule20_broken : (s : Sheet) (langs : List ℕ) (section k : ℕ) → breaks s langs 20 section k ≡ true → rule20 s section k ≡ true
unfolding breaks
rule20_broken s langs section k e = e

figures_twenty : (s : Sheet) (langs : List ℕ) (place : Place) → verdict s langs ≡ Broken 20 place → (x : Clash) → leader_clash s (record_of place) ≡ Some x → figures s langs ≡ x.first ∷ x.second ∷ []
unfolding figures_of
figures_twenty s langs place e x h = broken_figures s langs 20 place e ∙ told_figures (leader_clash s (record_of place)) x h

-- a clash of a leader with one that it lists
record Listed (s : Sheet) (l : ℕ) (x : Clash) : Type 0 where
  place : ℕ
  is_listed_lem : place < number s objects l complement_list
  differ : Differ s l (entry s objects l complement_list place) x

leader_listed : (s : Sheet) → ((i : ℕ) → word s i < 65536) → (l : ℕ) → l < count s objects
    → ((i : ℕ) → l < count s objects → i < number s objects l complement_list → entry s objects l complement_list i < count s objects)
    → IfSome (leader_clash s l) (Listed s l)
unfolding leader_clash
leader_listed s fit l m n =
    below_keeps (Listed s l) (λ i. member_clash s l (entry s objects l complement_list i)) (number s objects l complement_list)
    (λ i k. if_some (member_clash s l (entry s objects l complement_list i)) (λ x d. record { place = i; is_listed_lem = k; differ = d }) (clash_differs s fit l (entry s objects l complement_list i) m (n i m k)))

pub member_differs : (s : Sheet) (langs : List ℕ) (place : Place) → ((i : ℕ) → word s i < 65536) → verdict s langs ≡ Broken 20 place → MemberDiffers s langs (record_of place)
member_differs s langs place fit e =
    let b : BrokenAt s langs 20 (section_of place) (record_of place) = (broken_first s langs 20 place e).here in
    let l : ℕ = record_of place in
    let m : l < count s objects = object_place s place b.subject in
    let h : is_some (leader_clash s l) ≡ true = leader_found s (section_of place) l (rule20_broken s langs (section_of place) l b.broken) in
    let f : Found (Listed s l) (leader_clash s l) = found (Listed s l) (leader_clash s l) h (leader_listed s fit l m (complement_index s langs 20 place e five_twenty l)) in
    let x : Listed s l f.clash = f.keeps in
    record {
      place = x.place;
      first = f.clash.first;
      second = f.clash.second;
      listed = figures_twenty s langs place e f.clash f.is;
      is_listed_lem = x.is_listed_lem;
      leader_of_lem = x.differ.leader_of_lem;
      member_of = x.differ.member_of;
      inside = (m, complement_index s langs 20 place e five_twenty l x.place m x.is_listed_lem);
      same_word = x.differ.same_word;
      unequal = x.differ.unequal;
    }
