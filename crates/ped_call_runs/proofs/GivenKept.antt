-- What holds of all that is given names stays so through an expansion; the live-out variables of an expansion are those of the main program.
use Rattle.std.proofs.Common.{◌≡◌, ℕ, zero, suc, ℤ, List, [], ◌∷◌, ◌++◌, length, Bool, true, false, Option, Some, None, is_some, refl, sym, ap, ◌∙◌, if◌then◌else◌, append-nil, append_assoc}
use Rattle.std.specs.List.{flat_map}
use Rattle.ped_tree.specs.NamesIn.{saved_in}
use Rattle.ped_tree.specs.Tree.{ExprTree, StmtTree, StmtTrees, Assign, If, Do, Print, Read, Stop, Comment, no_stmts, more_stmts, DeclTree}
use Rattle.ped_tree.specs.Accesses.{listed}
use Rattle.ped_steps.specs.ped_symbols.specs.declared.symbols.Kind.{Kind}
use Rattle.ped_steps.specs.ped_symbols.specs.declared.symbols.Kind.TheVariants.{Scalar, Array, Constant}
use Rattle.ped_steps.specs.ped_symbols.specs.Entries.{entry_of}
use Rattle.ped_steps.specs.ped_symbols.specs.Kinds.{kind_in}
use Rattle.ped_steps.specs.ped_symbols.specs.Values.{Values, fixed_value}
use Rattle.ped_calls.specs.ped_units.specs.Forms.{Called}
use Rattle.ped_calls.specs.ped_units.specs.Units.{ProgramUnit, ProgramUnits, unit_of, call_of}
use Rattle.ped_calls.specs.ped_units.specs.Refusals.{save_of_formals, for_names}
use Rattle.ped_calls.specs.ped_units.specs.Expanding.{Given, free_name, with_new, declared_as, with_local, Meanings, replaced, called_replaced, is_variable_name, Bound, standing, bound_by, bound_arguments, body_names, constants_of, with_formals, with_constants, Renamed, with_renamed, renamed, meanings_in, Expanded, expanded_or, expanded_in, all_expanded_in, unit_expanded, call_expanded, nothing_given, main_expanded, expansion}
use Rattle.ped_steps.specs.ped_eval.specs.Loops.{sorted_once}
use Rattle.ped_steps.specs.ped_eval.specs.Outcomes.{live_names}

module _ {S : Type 0} (P : S → Type 0) (f : Called → S → Expanded S) (keeps : (c : Called) (s : S) → P s → P (f c s).state) (m : Meanings) where
  or_kept : (t : StmtTree) (s : S) (o : Option Called) → P s → P (expanded_or m f t s o).state
  or_kept t s None h = h
  or_kept t s (Some c) h = keeps (called_replaced m c) s h

  mutual
    pub state_kept : (t : StmtTree) (s : S) → P s → P (expanded_in m f t s).state
    state_kept (Assign left right) s h = or_kept (Assign (replaced m left) (replaced m right)) s (call_of left right) h
    state_kept (If c x y) s h = all_state_kept y (all_expanded_in m f x s).state (all_state_kept x s h)
    state_kept (Do head body) s h = all_state_kept body s h
    state_kept (Print items) s h = h
    state_kept (Read items) s h = h
    state_kept Stop s h = h
    state_kept (Comment text) s h = h

    pub all_state_kept : (ts : StmtTrees) (s : S) → P s → P (all_expanded_in m f ts s).state
    all_state_kept no_stmts s h = h
    all_state_kept (more_stmts t rest) s h = all_state_kept rest (expanded_in m f t s).state (state_kept t s h)

module _ (P : Given → Type 0) (new : (g : Given) → P g → P (with_new g)) (local : (g : Given) (kind : Option Kind) → P g → P (with_local g kind)) where
  pub bound_kept : (constants : Values) (es : List ExprTree) (g : Given) → P g → P (bound_arguments constants es g).given
  bound_kept constants [] g h = h
  bound_kept constants (e ∷ rest) g h = go (is_variable_name constants e) (fixed_value constants e) (bound_kept constants rest)
    where
      go : (t : Bool) (o : Option ℤ) → ((g : Given) → P g → P (bound_arguments constants rest g).given)
          → P (if t then standing e (bound_arguments constants rest g) else bound_by o e g (bound_arguments constants rest)).given
      go true o more = more g h
      go false (Some n) more = more g h
      go false None more = more (with_new g) (new g h)

  pub renamed_kept : (u : ProgramUnit) (xs : List (List ℕ)) (r : Renamed) → P r.given → P (renamed u xs r).given
  renamed_kept u [] r h = h
  renamed_kept u (x ∷ xs) r h = renamed_kept u xs (if is_some (entry_of r.meanings x) then r else with_renamed x (kind_in (for_names u) x) r) (go (is_some (entry_of r.meanings x)))
    where
      go : (t : Bool) → P (if t then r else with_renamed x (kind_in (for_names u) x) r).given
      go true = h
      go false = local r.given (kind_in (for_names u) x) h

  -- what holds of what is given holds behind each CALL
  pub call_kept : (depth : ℕ) (us : ProgramUnits) (constants : Values) (c : Called) (g : Given) → P g → P (call_expanded depth us constants c g).state
  call_kept zero us constants c g h = h
  call_kept (suc depth) us constants c g h = go (unit_of us c.name) (call_kept depth us [])
    where
      go : (o : Option ProgramUnit) → ((c : Called) (g : Given) → P g → P (call_expanded depth us [] c g).state) → P (unit_expanded (call_expanded depth us []) constants c g o).state
      go None inner = h
      go (Some v) inner =
          let b : Bound = bound_arguments constants (listed c.arguments) g in
          all_state_kept P (call_expanded depth us []) inner (meanings_in v b).meanings v.tree.body (meanings_in v b).given
          (renamed_kept v (body_names v) (record { meanings = with_constants (with_formals [] v.formals b.meant) (constants_of v); given = b.given }) (bound_kept constants (listed c.arguments) g h))

  -- and behind the main program
  pub main_kept : (us : ProgramUnits) (ts : StmtTrees) → P (nothing_given us) → P (main_expanded us ts).state
  main_kept us ts h = all_state_kept P (call_expanded (length us.others) us (constants_of us.main)) (call_kept (length us.others) us (constants_of us.main)) [] ts (nothing_given us) h

-- declarations that save nothing
abbrev pub SaveNothing : List DeclTree → Type 0
SaveNothing ds = flat_map saved_in ds ≡ []

saved_append : (ds es : List DeclTree) → flat_map saved_in (ds ++ es) ≡ flat_map saved_in ds ++ flat_map saved_in es
saved_append [] es = refl
saved_append (d ∷ ds) es = ap (λ (xs : List (List ℕ)). saved_in d ++ xs) (saved_append ds es) ∙ sym (append_assoc (saved_in d) (flat_map saved_in ds) (flat_map saved_in es))

-- the arrays of an expansion are not saved
arrays_save_nothing : (us : ProgramUnits) → SaveNothing (main_expanded us us.main.tree.body).state.arrays
arrays_save_nothing us = main_kept (λ g. SaveNothing g.arrays) (λ g h. h) more us us.main.tree.body refl
  where
    declared : (x : List ℕ) (kind : Option Kind) → SaveNothing (declared_as x kind)
    declared x None = refl
    declared x (Some Scalar) = refl
    declared x (Some (Array d)) = refl
    declared x (Some (Constant n)) = refl

    more : (g : Given) (kind : Option Kind) → SaveNothing g.arrays → SaveNothing (with_local g kind).arrays
    more g kind h = saved_append g.arrays (declared_as (free_name g.taken) kind) ∙ (λ i. h i ++ declared (free_name g.taken) kind i)

-- the live-out variables of an expansion are those of the main program, which has no dummy arguments
pub live_names_alike : (us : ProgramUnits) → us.main.formals ≡ [] → live_names (expansion us) ≡ live_names (for_names us.main)
live_names_alike us none =
    ap sorted_once (saved_append us.main.tree.decls (main_expanded us us.main.tree.body).state.arrays)
    ∙ (λ i. sorted_once (flat_map saved_in us.main.tree.decls ++ arrays_save_nothing us i))
    ∙ ap sorted_once (append-nil (flat_map saved_in us.main.tree.decls))
    ∙ (λ i. sorted_once (flat_map saved_in (save_of_formals (sym none i) ++ us.main.tree.decls)))
