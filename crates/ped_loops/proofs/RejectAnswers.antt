-- From what the code of `reject` finds to what it answers.
use Rattle.std.proofs.Common.{◌≡◌, ◌≤◌, ℕ, List, length, Bool, true, false, ◌&&◌, nat_le, Ok, Err, refl, subst}
use Rattle.std.specs.Prelude.{IsTrue}
use Rattle.std.proofs.lemmas.Bool.{and_from, le-leb}
use Rattle.ped_base.specs.Letters.{is_name as has_form}
use Rattle.ped_base.specs.Lists.{is_same_text}
use Rattle.ped_tree.specs.Grammar.Words.{is_name}
use Rattle.ped_tree.specs.Tree.{ProgramTree}
use Rattle.ped_rules.specs.Steps.{rejection, Answers}
use Rattle.ped_rules.proofs.Answering.{refused_by, accepted_by, none_first}
use Rattle.ped_rules.specs.ped_steps.specs.declared.rules.Rule.{Rule}
use Rattle.ped_rules.specs.ped_steps.specs.declared.causes.Refused.{Refused}
use Rattle.ped_rules.specs.ped_steps.specs.declared.causes.Refused.TheVariants as variant
use Rattle.ped_rules.specs.ped_steps.specs.declared.changes.Change.{Change}
use Rattle.ped_rules.specs.ped_steps.specs.Causes.{NoRule, IsFirstRule, none_forbids}
use Rattle.ped_rules.specs.ped_steps.specs.Changes.{IsChange}
use Rattle.ped_rules.specs.ped_steps.specs.Replacing.{all_kept}
use Rattle.ped_loops.specs.Rejecting.{is_variable, rejecting, with_directive, MakesRejection, StandsAgainstRejection}

module _ (t : ProgramTree) (s : ℕ) (x : List ℕ) where
  pub refused : (r : Rule) (n : ℕ) (answer : Refused) → answer ≡ variant.Rule r n → IsFirstRule (StandsAgainstRejection s x t) r n → Answers (rejecting s x) t (Err answer)
  refused r n answer is first = refused_by rejection s (StandsAgainstRejection s x) (λ u. none_forbids) (MakesRejection s x) t r n answer is first

  pub accepted : (change : Change) → NoRule (StandsAgainstRejection s x t) → IsChange (with_directive t s x) (all_kept t) change → Answers (rejecting s x) t (Ok change)
  accepted change none made = accepted_by rejection s (StandsAgainstRejection s x) (λ u. none_forbids) (MakesRejection s x) t change (with_directive t s x) (all_kept t) none (none_first t) (refl, refl) made

whole : (a b : Bool) → a ≡ true → b ≡ (a && b)
whole true b e = refl
whole false b e = absurd cc

-- the bytes of a name have the form of one
pub variable_by : (x y bytes : List ℕ) → bytes ≡ y → IsTrue (has_form bytes) → length bytes ≤ 31 → is_same_text x y ≡ is_variable x y
variable_by x y bytes is name short = whole (is_name y) (is_same_text x y) (subst (λ (z : List ℕ). is_name z ≡ true) is (and_from (has_form bytes) (nat_le (length bytes) 31) name (le-leb (length bytes) 31 short)))
