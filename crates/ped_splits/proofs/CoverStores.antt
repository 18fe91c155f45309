-- Stores of a run of statements, of any program: what no statement assigns keeps its value, and elements and scalars that are the variable of no DO hold storable numbers.
use Rattle.std.proofs.Common.{◌≡◌, ℕ, ℤ, List, ◌++◌, Bool, true, false, not, refl, sym, ap, ◌∙◌, subst}
use Rattle.std.specs.List.{list_any}
use Rattle.std.proofs.lemmas.List.Folds.{list_any-append}
use Rattle.ped_base.specs.Lists.{is_among}
use Rattle.ped_base.proofs.NameEquality.{same_itself}
use Rattle.ped_tree.specs.Tree.{StmtTrees}
use Rattle.ped_tree.specs.NamesIn.{all_loop_variables}
use Rattle.ped_rules.specs.ped_affine.specs.Assigned.{assigned_in_all}
use Rattle.ped_rules.specs.ped_flow.proofs.Truths.{or_none}
use Rattle.ped_rules.specs.ped_store.specs.Cells.{Cell, Scalar, Element, Private, In, Out}
use Rattle.ped_rules.specs.ped_store.specs.Stores.{Content, Undefined, Number, Lines, Store, is_storable, store_at_start}
use Rattle.ped_rules.specs.ped_store.specs.Acts.{Touch, Act}
use Rattle.ped_rules.specs.ped_eval.specs.Scopes.{Setting, Scope}
use Rattle.ped_rules.specs.ped_eval.specs.Runs.{run_all}
use Rattle.ped_rules.specs.ped_laws.specs.Acts.Fitting.{store_after, touches_of}
use Rattle.ped_rules.specs.ped_laws.specs.Acts.Sets.{written, writes_to}
use Rattle.ped_rules.specs.ped_laws.specs.Covering.Within.{is_storing, HoldsStorable}
use Rattle.ped_rules.specs.ped_laws.specs.Plain.Executions.{is_small, WriteSmall}
use Rattle.ped_rules.specs.ped_laws.proofs.ActLaws.Renamings.{after_other}
use Rattle.ped_rules.specs.ped_laws.proofs.ActLaws.Reorderings.{touches_append}
use Rattle.ped_rules.specs.ped_laws.proofs.FlowRunLaws.Writing.{all_unassigned}
use Rattle.ped_rules.specs.ped_laws.proofs.PlainLaws.SmallWrites.{run_all_small, small_after, small_front}
use Rattle.ped_splits.proofs.CoverElements.{elements_small}

small_of : (o : Content) → ((n : ℤ) → o ≡ Number n → is_storable n ≡ true) → is_small o ≡ true
small_of Undefined h = refl
small_of (Number n) h = h n refl
small_of (Lines lines) h = refl

of_small : (o : Content) (n : ℤ) → is_small o ≡ true → o ≡ Number n → is_storable n ≡ true
of_small o n h e = sym (ap is_small e) ∙ h

isnt : (b : Bool) → not b ≡ true → b ≡ false
isnt false h = refl
isnt true h = absurd cc

not_both : (b : Bool) → b ≡ true → b ≡ false → ⊥
not_both true h k = absurd cc
not_both false h k = absurd cc

none_of : (b c : Bool) → (b ≡ true → c ≡ true) → c ≡ false → b ≡ false
none_of false c f h = refl
none_of true c f h = absurd (not_both c (f refl) h)

module _ (p : Setting) (ts : StmtTrees) (n : ℕ) (scope : Scope) (s : Store) (front behind : List Act) (is : (run_all p ts n scope s).acts ≡ front ++ behind) where
  front_unwritten : (c : Cell) → written (run_all p ts n scope s).acts c ≡ false → written front c ≡ false
  front_unwritten c h =
      (or_none (written front c) (written behind c)
      (sym (list_any-append (λ (t : Touch). writes_to t c) (touches_of front) (touches_of behind)) ∙ (sym (ap (λ (zs : List Act). written zs c) is ∙ ap (λ (zs : List Touch). list_any (λ t. writes_to t c) zs) (touches_append front behind)) ∙ h))).0

  -- a scalar that the statements don't assign
  pub keeps_unassigned : (x : List ℕ) → is_among x (assigned_in_all ts) ≡ false → store_after front s (Scalar x) ≡ s (Scalar x)
  keeps_unassigned x none = after_other front s (Scalar x) (front_unwritten (Scalar x) (all_unassigned p x ts n scope s (Scalar x) none (same_itself x)))

  -- numbers that are stored
  module _ (variables : List (List ℕ)) (within : (x : List ℕ) → is_among x (all_loop_variables ts) ≡ true → is_among x variables ≡ true) (held : HoldsStorable variables s) where
    none_there : (x : List ℕ) → not (is_among x variables) ≡ true → is_among x (all_loop_variables ts) ≡ false
    none_there x h = none_of (is_among x (all_loop_variables ts)) (is_among x variables) (within x) (isnt (is_among x variables) h)

    write_small : (c : Cell) → is_storing variables c ≡ true → WriteSmall c (touches_of (run_all p ts n scope s).acts)
    write_small (Scalar x) h = run_all_small p x (Scalar x) (same_itself x) ts n scope s (none_there x h)
    write_small (Private x path) h = run_all_small p x (Private x path) (same_itself x) ts n scope s (none_there x h)
    write_small (Element x js) h = elements_small p x js ts n scope s
    write_small In h = absurd cc
    write_small Out h = absurd cc

    pub holds_behind : HoldsStorable variables (store_after front s)
    holds_behind c m storing h =
        of_small (store_after front s c) m
        (small_after c front s (small_front c (touches_of front) (touches_of behind) (subst (λ (zs : List Touch). WriteSmall c zs) (ap touches_of is ∙ touches_append front behind) (write_small c storing)))
        (small_of (s c) (λ k e. held c k storing e)))
        h

-- at the start nothing is stored
pub holds_at_start : (variables : List (List ℕ)) (lines : List (List ℕ)) → HoldsStorable variables (store_at_start lines)
holds_at_start variables lines (Scalar x) n storing h = absurd cc
holds_at_start variables lines (Element x js) n storing h = absurd cc
holds_at_start variables lines (Private x path) n storing h = absurd cc
holds_at_start variables lines In n storing h = absurd cc
holds_at_start variables lines Out n storing h = absurd cc
