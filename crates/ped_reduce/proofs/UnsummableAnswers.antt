-- Whether a DO can't add to a name, by what the code asks one behind the other.
use Rattle.std.proofs.Common.{◌≡◌, ℕ, List, Bool, true, false, not, ◌||◌, sym, ap, ◌∙◌}
use Rattle.ped_base.specs.Lists.{is_among}
use Rattle.ped_tree.specs.NamesIn.{all_loop_variables}
use Rattle.ped_tree.specs.Tree.{StmtTrees, ProgramTree}
use Rattle.ped_rules.specs.Scalars.{is_scalar, is_referred}
use Rattle.ped_reduce.specs.Reducing.{is_unsummable}

module _ (t : ProgramTree) (s : ℕ) (body : StmtTrees) (x : List ℕ) where
  -- it is no scalar
  pub not_scalar : is_scalar t x ≡ false → true ≡ is_unsummable t s body x
  not_scalar fails = sym (λ i. not (fails i) || is_among x (all_loop_variables t.body) || not (is_referred t s body x))

  -- it is the variable of a DO
  pub an_index : is_scalar t x ≡ true → is_among x (all_loop_variables t.body) ≡ true → true ≡ is_unsummable t s body x
  an_index scalar among = sym (λ i. not (scalar i) || among i || not (is_referred t s body x))

  -- the body refers to it or doesn't
  pub referred : is_scalar t x ≡ true → is_among x (all_loop_variables t.body) ≡ false → (r : Bool) → r ≡ is_referred t s body x → not r ≡ is_unsummable t s body x
  referred scalar among r e = ap not e ∙ sym (λ i. not (scalar i) || among i || not (is_referred t s body x))
