-- A leader, an object in no group, or neither. Assumes nothing.
use Rattle.std.proofs.Common.{ℕ, ◌+◌, refl, sym, ap, ◌∙◌, rules}
use Rattle.sheet.specs.Words.{sheet_of}
use Rattle.screen.proofs.TotalLaws.{leader_added, lone_added, other_added}
use Rattle.screen.proofs.SheetTotals.with_object.Goals as goal

pub returns-then-leader : goal.returns-then-leader
returns-then-leader c =
    let a = c.args in (search rules, λ v h. leader_added (sheet_of a.s.now) a.o a.self _ h (sym c.leader.ensures ∙ c.if-leader.true) refl refl (ap (λ (x : ℕ). a.self.tracks + x) (c.from.ensures ∙ c.largest_member.ensures)))

pub returns-then-is_alone : goal.returns-then-is_alone
returns-then-is_alone c =
    let a = c.args in (search rules, λ v h. lone_added (sheet_of a.s.now) a.o a.self _ h (sym c.leader.ensures ∙ c.if-leader.false) (sym (c.is_alone.ensures v) ∙ c.if-is_alone.true) refl refl (ap (λ (x : ℕ). a.self.tracks + x) (c.from-then-is_alone.ensures ∙ c.size.ensures)))

pub returns : goal.returns
returns c = let a = c.args in (search rules, λ v h. other_added (sheet_of a.s.now) a.o a.self _ h (sym c.leader.ensures ∙ c.if-leader.false) (sym (c.is_alone.ensures v) ∙ c.if-is_alone.false) refl refl refl)
