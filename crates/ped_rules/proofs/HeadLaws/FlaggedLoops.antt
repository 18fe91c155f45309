-- A DO that becomes a PARALLEL DO, or ceases to be one: it gives way one for one, and a program that may be trusted stays so.
use Rattle.std.proofs.Common.{◌≡◌, ℕ, List, [], ◌∷◌, Bool, true, false, ◌&&◌, ◌||◌, Some, Ok, refl, sym, ap, ◌∙◌, subst, inl, inr}
use Rattle.std.specs.List.{list_any}
use Rattle.std.proofs.lemmas.Bool.{both_ways}
use Rattle.ped_base.specs.Lists.{is_same_text, is_among}
use Rattle.ped_base.proofs.NameEquality.{same_itself}
use Rattle.ped_tree.specs.Tree.{Head, StmtTree, StmtTrees, Do, ProgramTree}
use Rattle.ped_tree.specs.NamesIn.{loop_variables, all_loop_variables}
use Rattle.ped_tree.specs.Numbering.{statement_with}
use Rattle.ped_tree.specs.Accesses.{constant_names}
use Rattle.ped_loop_runs.specs.ped_eval.specs.Loops.{Limits, limits}
use Rattle.ped_loop_runs.specs.ped_eval.specs.Scopes.{Scope, names_in}
use Rattle.ped_loop_runs.specs.ped_eval.specs.Outcomes.{setting_of}
use Rattle.ped_loop_runs.specs.ped_store.specs.Stores.{Store}
use Rattle.ped_loop_runs.specs.ped_symbols.specs.Kinds.{kind_in}
use Rattle.ped_loop_runs.specs.ped_symbols.specs.NameRefusals.{IsValid}
use Rattle.ped_loop_runs.specs.ped_flow.specs.Questions.{LoopOf, IsContained}
use Rattle.ped_loop_runs.specs.ped_flow.proofs.Truths.{or_none}
use Rattle.ped_loop_runs.specs.ped_steps.specs.Replacing.{alone, program_with}
use Rattle.ped_loop_runs.specs.ped_steps.specs.Tidy.{is_written_in, IsTidy}
use Rattle.ped_loop_runs.specs.ped_steps.proofs.OnePlace.{one_program}
use Rattle.ped_loop_runs.specs.Unrejected.{IsTrusted}
use Rattle.ped_loop_runs.specs.Writing.{all_write, some_write_index}
use Rattle.ped_loop_runs.proofs.TidyLaws.TidyReferences.{written_is}
use Rattle.ped_rules.specs.OnlyLoops.{on_loop}
use Rattle.ped_loop_runs.specs.OneForOne.{HasSameTrips, IsReordered, IsOneForOne}
use Rattle.ped_loop_runs.proofs.LoopLaws.PlacedLoops.{placed_loop}
use Rattle.ped_loop_runs.proofs.LoopLaws.OneForOneNames.{kinds_alike}
use Rattle.ped_rules.specs.Flags.{with_flag, flagged}
use Rattle.ped_rules.proofs.HeadLaws.OneHead.{TrustedLaw, ClearedLaw, stays_trusted_head}

same_statement : (a b : StmtTree) → Some a ≡ Some b → a ≡ b
same_statement a b e = cc

none_of : (p : List ℕ → Bool) (names : List (List ℕ)) → ((w : List ℕ) → is_among w names ≡ true → p w ≡ false) → list_any p names ≡ false
none_of p [] h = refl
none_of p (y ∷ ys) h =
    let first = h y (ap (λ (b : Bool). b || is_among y ys) (same_itself y)) in
    let rest = none_of p ys (λ w e. h w (or_second (is_same_text w y) (is_among w ys) e)) in
    λ i. first i || rest i
  where
    or_second : (a b : Bool) → b ≡ true → (a || b) ≡ true
    or_second true b e = refl
    or_second false b e = e

module _ (t : ProgramTree) (valid : IsValid t) (s : ℕ) (loop : LoopOf t s) (flag : Bool) where
  abbrev d : Head
  d = loop.head

  abbrev body : StmtTrees
  body = loop.body

  abbrev h : Head
  h = record d { parallel = flag }

  abbrev u : ProgramTree
  u = flagged t s flag

  flagged_is : u ≡ program_with (λ z. alone (Do h body)) s t
  flagged_is = one_program (on_loop (with_flag flag)) (λ z. alone (Do h body)) s t (λ g e. ap (on_loop (with_flag flag)) (same_statement g (Do d body) (sym e ∙ loop.is)))

  same_trips : (scope : Scope) (v : Store) (old : Limits) → (limits (names_in (setting_of t) scope) d v).result ≡ Ok old → HasSameTrips (setting_of t) d h body s false scope v old
  same_trips scope v old come = record {
    bounds = old;
    come = come;
    count = refl;
    values = λ k from to. refl;
    among = λ y i m. (y, i, m, refl, refl);
  }

  -- it gives way one for one
  pub one_for_one_flag : IsValid u → IsContained t s → (flag ≡ d.parallel → ⊥) → ((w : List ℕ) → is_among w (loop_variables (Do d body)) ≡ true → is_written_in t s body w ≡ false) → IsOneForOne t u s loop h false
  one_for_one_flag new_valid contained differ unwritten = record {
    valid = valid;
    new_valid = new_valid;
    new = flagged_is;
    kinds = λ y. ap (λ (v : ProgramTree). kind_in v y) flagged_is ∙ kinds_alike t valid s loop h refl (λ z e. refl) y;
    variable = refl;
    private = refl;
    contained = contained;
    trips = same_trips;
    in_turn = λ e. absurd (both_ways false refl e);
    differ = λ e. differ;
    unwritten = λ e. unwritten;
  }

  -- its iterations are in the same order; or they are done in any order, where it becomes a PARALLEL DO
  pub became_parallel : IsReordered d h false → (d.parallel ≡ false) × (flag ≡ true)
  became_parallel (inl never) = absurd (both_ways false refl never)
  became_parallel (inr became) = became

  -- where the new program is tidy, no reference in a DO that became a PARALLEL DO writes a variable of it
  pub unwritten_by_tidy : flag ≡ true → IsTidy u → (w : List ℕ) → is_among w (loop_variables (Do d body)) ≡ true → is_written_in t s body w ≡ false
  unwritten_by_tidy parallel tidy w among = written_is t s loop w ∙ sym (written_is u s new_loop w) ∙ (tidy s new_loop parallel w (record { loop = new_loop; among = among })).unwritten
    where
      new_loop : LoopOf u s
      new_loop = record { head = h; body = body; is = ap (statement_with s) flagged_is ∙ placed_loop t s loop h }

  -- and what may be trusted stays so
  module _ (contained : IsContained t s) (unwritten : (w : List ℕ) → is_among w (loop_variables (Do d body)) ≡ true → is_written_in t s body w ≡ false) where
    no_index : list_any (λ w. all_write (constant_names t.decls) w body) (d.variable ∷ all_loop_variables body) ≡ false
    no_index = none_of (λ w. all_write (constant_names t.decls) w body) (d.variable ∷ all_loop_variables body) (λ w among. sym (written_is t s loop w) ∙ unwritten w among)

    and_false : (a b : Bool) → b ≡ false → (a && b) ≡ false
    and_false true b e = e
    and_false false b e = refl

    unwritten_index : some_write_index (constant_names t.decls) (alone (Do d body)) ≡ false → some_write_index (constant_names t.decls) (alone (Do h body)) ≡ false
    unwritten_index none =
        let parts = or_none ((d.parallel && list_any (λ w. all_write (constant_names t.decls) w body) (d.variable ∷ all_loop_variables body)) || some_write_index (constant_names t.decls) body) false none in
        let inner = or_none (d.parallel && list_any (λ w. all_write (constant_names t.decls) w body) (d.variable ∷ all_loop_variables body)) (some_write_index (constant_names t.decls) body) parts.0 in
        let own = and_false flag (list_any (λ w. all_write (constant_names t.decls) w body) (d.variable ∷ all_loop_variables body)) no_index in
        λ i. (own i || inner.1 i) || false

    pub stays_trusted_flag : TrustedLaw → ClearedLaw → IsTrusted t → IsTrusted u
    stays_trusted_flag law cleared trusted = subst IsTrusted (sym flagged_is) (stays_trusted_head t valid s loop contained h refl refl refl unwritten_index law cleared trusted)
