-- Where no rule stands against `privatise`, the new program keeps the meaning of the old one.
use Rattle.std.proofs.Common.{◌≡◌, ℕ, List, true, refl, inl, inr}
use Rattle.std.specs.List.{list_any}
use Rattle.std.proofs.lemmas.Bool.{or_parts}
use Rattle.ped_tree.specs.Tree.{ProgramTree}
use Rattle.ped_rules.specs.ped_symbols.specs.NameRefusals.{IsValid}
use Rattle.ped_rules.specs.ped_flow.specs.PlainBounds.{nest_round}
use Rattle.ped_rules.specs.ped_flow.specs.Questions.{LoopOf, IsExposed, IsReadBehind, IsLiveAfter}
use Rattle.ped_rules.specs.ped_steps.specs.Causes.{NoRule}
use Rattle.ped_rules.specs.ped_steps.specs.Runs.Meaning.{Keeps}
use Rattle.ped_rules.specs.Scalars.{is_scalar}
use Rattle.ped_scalar.specs.Privatising.{privatised, StandsAgainstPrivatising}
use Rattle.ped_scalar.proofs.FlowAnswers.{fit_scalar}
use Rattle.ped_scalar.proofs.PrivatisedKeeps.{privatised_keeps}
use Rattle.ped_scalar.proofs.PrivatiseRules as rules
use Rattle.ped_rules.proofs.LeastNumbers.{least}

module _ (t : ProgramTree) (s : ℕ) (x : List ℕ) (valid : IsValid t) (stands_none : NoRule (StandsAgainstPrivatising s x t)) where
  module _ (l : LoopOf t s) where
    scalar : is_scalar t x ≡ true
    scalar = fit_scalar t s l.head l.body x (rules.is_fit s x t stands_none l)

    unexposed : (n : ℕ) → IsExposed t s x n → ⊥
    unexposed = least (IsExposed t s x) (λ n first. rules.is_spared s x t stands_none n (scalar, inl first))

    unread : (n : ℕ) → IsReadBehind t s x n → ⊥
    unread = least (IsReadBehind t s x) (λ n first. rules.is_spared s x t stands_none n (scalar, inr (unexposed, inl first)))

    dead : IsLiveAfter t s x → ⊥
    dead (inl read) = unread read.0 read.1
    dead (inr shown) = rules.is_spared s x t stands_none s (scalar, inr (unexposed, inr (unread, shown, refl)))

    kept : Keeps t (privatised t s x)
    kept =
        let apart = or_parts l.head.parallel (list_any (λ m. m.head.parallel) (nest_round t s)) (rules.is_apart s x t stands_none l) in
        privatised_keeps t valid s l x apart.0 apart.1 (rules.is_unlisted s x t stands_none l) scalar unexposed dead (rules.is_valid s x t stands_none)

  -- the program keeps its meaning
  pub privatising_keeps_it : Keeps t (privatised t s x)
  privatising_keeps_it = kept (rules.its_loop s x t stands_none)
