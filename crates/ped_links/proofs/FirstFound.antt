-- The first of the refusals by CALLs, of some and of more.
use Rattle.std.proofs.Common.{◌≡◌, inl, inr, ℕ, Bool, true, false, cond, Option, Some, None, refl, sym, ap, ◌∙◌, eqb, eqb-true, ltb, ◌||◌, ◌&&◌, arith}
use Rattle.std.specs.Prelude.{IsTrue}
use Rattle.ped_units.specs.Linking.{LinkRefusal, number_of_link}
use Rattle.ped_units.specs.Verdicts.{number_of_rule, of_links}
use Rattle.ped_units.specs.Views.{rule_of}
use Rattle.ped_links.specs.FirstLinks.{is_before_finding, standing_link, first_link_of, IsFirstAmong, IsFirstOf, NoneStands, EitherStands, StandsIf}
use Rattle.ped_units.specs.declared.refusals.UnitRule.{UnitRule}
use Rattle.ped_units.specs.declared.refusals.UnitFinding.{UnitFinding}

-- by line, and then by number
abbrev before : ℕ → ℕ → ℕ → ℕ → Bool
before a p b q = ltb a b || (eqb a b && ltb p q)

neither_through : (a p b q c r : ℕ) → before a p b q ≡ false → before b q c r ≡ false → before a p c r ≡ false
neither_through a p b q c r h k = grind (arith, eqb-true)

not_before_earlier : (a p b q c r : ℕ) → before a p c r ≡ false → before b q c r ≡ true → before a p b q ≡ false
not_before_earlier a p b q c r h k = grind (arith, eqb-true)

not_itself : (a p : ℕ) → before a p a p ≡ false
not_itself a p = grind (arith, eqb-true)

-- none of none
pub nothing_first : IsFirstOf NoneStands None
nothing_first r line h = h

-- the same stand
pub first_as : (one other : LinkRefusal → ℕ → Type 0) (found : Option UnitFinding) → ((r : LinkRefusal) (line : ℕ) → one r line → other r line) → ((r : LinkRefusal) (line : ℕ) → other r line → one r line) → IsFirstOf one found → IsFirstOf other found
first_as one other None f g h = λ r line s. h r line (g r line s)
first_as one other (Some x) f g h = record {
  rule = h.rule;
  is_rule = h.is_rule;
  stands_there = f h.rule x.line h.stands_there;
  least = λ q line s. h.least q line (g q line s);
}

-- the test of the code is that of the rules
told : (f g : UnitFinding) (r q : LinkRefusal) → rule_of f.rule ≡ of_links r → rule_of g.rule ≡ of_links q → is_before_finding f g ≡ before f.line (number_of_link r) g.line (number_of_link q)
told f g r q a b = ap (λ (n : ℕ). before f.line n g.line (number_of_rule (rule_of g.rule))) (ap number_of_rule a) ∙ ap (λ (n : ℕ). before f.line (number_of_link r) g.line n) (ap number_of_rule b)

both_by : (one other : LinkRefusal → ℕ → Type 0) (f g : UnitFinding) (b : Bool) → is_before_finding g f ≡ b → IsFirstAmong one f → IsFirstAmong other g → IsFirstOf (EitherStands one other) (cond b (Some g) (Some f))
both_by one other f g true e h k =
    let sooner : before g.line (number_of_link k.rule) f.line (number_of_link h.rule) ≡ true = sym (told g f k.rule h.rule k.is_rule h.is_rule) ∙ e in
    record {
      rule = k.rule;
      is_rule = k.is_rule;
      stands_there = inr k.stands_there;
      least = λ q line s. elim s [
        | inl x ↦ not_before_earlier line (number_of_link q) g.line (number_of_link k.rule) f.line (number_of_link h.rule) (h.least q line x) sooner
        | inr y ↦ k.least q line y
      ];
    }
both_by one other f g false e h k =
    let later : before g.line (number_of_link k.rule) f.line (number_of_link h.rule) ≡ false = sym (told g f k.rule h.rule k.is_rule h.is_rule) ∙ e in
    record {
      rule = h.rule;
      is_rule = h.is_rule;
      stands_there = inl h.stands_there;
      least = λ q line s. elim s [
        | inl x ↦ h.least q line x
        | inr y ↦ neither_through line (number_of_link q) g.line (number_of_link k.rule) f.line (number_of_link h.rule) (k.least q line y) later
      ];
    }

-- the first of some, and the first of others
pub both_first : (one other : LinkRefusal → ℕ → Type 0) (found more : Option UnitFinding) → IsFirstOf one found → IsFirstOf other more → IsFirstOf (EitherStands one other) (first_link_of found more)
both_first one other None None h k = λ r line s. elim s [ inl x ↦ h r line x | inr y ↦ k r line y ]
both_first one other (Some f) None h k = record {
  rule = h.rule;
  is_rule = h.is_rule;
  stands_there = inl h.stands_there;
  least = λ q line s. elim s [ inl x ↦ h.least q line x | inr y ↦ absurd (k q line y) ];
}
both_first one other None (Some g) h k = record {
  rule = k.rule;
  is_rule = k.is_rule;
  stands_there = inr k.stands_there;
  least = λ q line s. elim s [ inl x ↦ absurd (h q line x) | inr y ↦ k.least q line y ];
}
both_first one other (Some f) (Some g) h k = both_by one other f g (is_before_finding g f) refl h k

-- one rule at one line
pub one_first : (rule : UnitRule) (line : ℕ) (r : LinkRefusal) (holds : Type 0) → rule_of rule ≡ of_links r → holds → IsFirstOf (StandsIf r line holds) (Some (record { rule = rule; line = line }))
one_first rule line r holds e h = record {
  rule = r;
  is_rule = e;
  stands_there = (refl, refl, h);
  least = λ q other s. ap (λ (n : ℕ). before n (number_of_link q) line (number_of_link r)) s.1 ∙ ap (λ (p : LinkRefusal). before line (number_of_link p) line (number_of_link r)) s.0 ∙ not_itself line (number_of_link r);
}

no_truth : IsTrue false → ⊥
no_truth h = absurd cc

-- one rule at one line, where a test says that it stands
pub standing_first : (one : LinkRefusal → ℕ → Type 0) (found : Option UnitFinding) (test : Bool) (rule : UnitRule) (line : ℕ) (r : LinkRefusal) (holds : Type 0) → rule_of rule ≡ of_links r → IsFirstOf one found → (IsTrue test → holds) → (holds → IsTrue test)
    → IsFirstOf (EitherStands one (StandsIf r line holds)) (standing_link found test rule line)
standing_first one found true rule line r holds e h f g = both_first one (StandsIf r line holds) found (Some (record { rule = rule; line = line })) h (one_first rule line r holds e (f refl))
standing_first one found false rule line r holds e h f g = first_as one (EitherStands one (StandsIf r line holds)) found (λ q other s. inl s) (λ q other s. elim s [ inl x ↦ x | inr y ↦ absurd (no_truth (g y.2)) ]) h
