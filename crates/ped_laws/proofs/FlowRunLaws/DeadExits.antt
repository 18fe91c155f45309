-- What a whole run does behind an exit of a DO.
use Rattle.std.proofs.Common.{◌≡◌, ℕ, List, [], ◌∷◌, ◌++◌, Bool, true, false, not, ◌&&◌, Some, if◌then◌else◌, refl, sym, ap, subst, ◌∙◌, inl, inr}
use Rattle.std.specs.List.{flat_map}
use Rattle.ped_flow.specs.ped_base.specs.Lists.{is_among}
use Rattle.ped_flow.specs.ped_tree.specs.Tree.{Head, Do, ProgramTree}
use Rattle.ped_flow.specs.ped_tree.specs.Accesses.{constant_names}
use Rattle.ped_flow.specs.ped_tree.specs.Numbering.{statement_with, statements_count}
use Rattle.ped_eval.specs.ped_store.specs.Cells.{Cell, Scalar}
use Rattle.ped_eval.specs.ped_store.specs.Stores.{Store}
use Rattle.ped_eval.specs.ped_store.specs.Acts.{Turn, Place, Act}
use Rattle.ped_laws.specs.Acts.Fitting.{touches_of}
use Rattle.ped_laws.specs.Acts.Sets.{written, needs, wants}
use Rattle.ped_eval.specs.Scopes.{Setting, Frame, Scope, turns_of, cell_of, place_of}
use Rattle.ped_eval.specs.Loops.{inner_variables}
use Rattle.ped_eval.specs.Runs.{Ending, going, stopped, failed, run_all}
use Rattle.ped_eval.specs.Outcomes.{Ends}
use Rattle.ped_flow.specs.Events.{Event, overwrites}
use Rattle.ped_flow.specs.PathSets.{Whole}
use Rattle.ped_flow.specs.Paths.{paths_from_exit}
use Rattle.ped_flow.specs.Questions.{IsLiveAfter}
use Rattle.ped_flow.specs.ped_tree.specs.NamesIn.{saved_in}
use Rattle.ped_flow.proofs.Truths.{untrue, or_split, and_split, not_true}
use Rattle.ped_laws.specs.FlowRuns.Covering.{some_stops_in_loop}
use Rattle.ped_laws.specs.FlowRuns.Exits.{IsOneToOne, IsIterationOf, AreIterationsOf, Follows, IsExit}
use Rattle.ped_laws.proofs.FlowRunLaws.Coverings.{not_so}
use Rattle.ped_laws.proofs.FlowRunLaws.Standing.{whole_stands}
use Rattle.ped_laws.proofs.FlowRunLaws.Behind.{IsBehind, all_behind_exit}

-- lists with one more item at the end
no_end : {A : Type 0} (x : A) (xs : List A) → [] ≡ xs ++ x ∷ [] → ⊥
no_end x [] h = absurd cc
no_end x (y ∷ ys) h = absurd cc

same_end : {A : Type 0} (xs ys : List A) (x y : A) → xs ++ x ∷ [] ≡ ys ++ y ∷ [] → (xs ≡ ys) × (x ≡ y)
same_end [] [] x y h = (refl, cc)
same_end [] (z ∷ zs) x y h = let e : [] ≡ zs ++ y ∷ [] = cc in absurd (no_end y zs e)
same_end (z ∷ zs) [] x y h = let e : [] ≡ zs ++ x ∷ [] = cc in absurd (no_end x zs e)
same_end (z ∷ zs) (w ∷ ws) x y h =
    let first : z ≡ w = cc in
    let rest : zs ++ x ∷ [] ≡ ws ++ y ∷ [] = cc in
    let r = same_end zs ws x y rest in
    (λ i. first i ∷ r.0 i, r.1)

module _ (p : Setting) (one : IsOneToOne p.number) (t : ProgramTree) where
  -- iterations of one turn are the same
  same_frame : (f g : Frame) → IsIterationOf p t f → IsIterationOf p t g → f.turn ≡ g.turn → f ≡ g
  same_frame f g hf hg e =
      let number : hf.number ≡ hg.number = one hf.number hg.number (sym hf.turn ∙ (ap (λ (z : Turn). z.statement) e ∙ hg.turn)) in
      let both : Some (Do hf.loop.head hf.loop.body) ≡ Some (Do hg.loop.head hg.loop.body) = sym hf.loop.is ∙ (ap (λ (m : ℕ). statement_with m t) number ∙ hg.loop.is) in
      let head : hf.loop.head ≡ hg.loop.head = cc in
      let body : hf.loop.body ≡ hg.loop.body = cc in
      let variable : f.variable ≡ g.variable = hf.variable ∙ (ap (λ (h : Head). h.variable) head ∙ sym hg.variable) in
      let private : f.private ≡ g.private =
      hf.private ∙ ((λ i. if (head i).parallel then (head i).variable ∷ ((head i).private ++ inner_variables (head i).parallel (body i)) else (head i).private) ∙ sym hg.private) in
      λ i. record { turn = e i; variable = variable i; private = private i }

  same_scopes : (S T : Scope) → AreIterationsOf p t S → AreIterationsOf p t T → turns_of S ≡ turns_of T → S ≡ T
  same_scopes [] [] h k e = refl
  same_scopes [] (g ∷ gs) h k e = absurd (no_end g.turn (turns_of gs) e)
  same_scopes (f ∷ fs) [] h k e = absurd (no_end f.turn (turns_of fs) (sym e))
  same_scopes (f ∷ fs) (g ∷ gs) h k e =
      let r = same_end (turns_of fs) (turns_of gs) f.turn g.turn e in
      let first = same_frame f g h.0 k.0 r.1 in
      let rest = same_scopes fs gs h.1 k.1 r.0 in
      λ i. first i ∷ rest i

  module _ (x : List ℕ) (other : is_among x (constant_names t.decls) ≡ false) (unstopping : some_stops_in_loop t.body ≡ false) (s : Store) (l : ℕ) (S : Scope) (behind : List Act) (exit : IsExit p t s l S behind) where
    pub exit_followed : (path : List Event) × Whole (paths_from_exit t l) path × Follows x (Scalar x) (cell_of S x) path (touches_of behind)
    exit_followed = by (run_all p t.body 1 [] s).ending exit.ends (all_behind_exit p one t x other l exit.act exit.leaves t.body 1 [] tt (whole_stands t) unstopping s exit.front behind exit.whole)
      where
        there : (T : Scope) → AreIterationsOf p t T → exit.act.place ≡ place_of p l T → T ≡ S
        there T its e = same_scopes T S its exit.iterations (ap (λ (z : Place). z.turns) (sym e ∙ exit.place))

        moved : (T : Scope) (path : List Event) → T ≡ S → Follows x (Scalar x) (cell_of T x) path (touches_of behind) → Follows x (Scalar x) (cell_of S x) path (touches_of behind)
        moved T path e f = subst (λ (Z : Scope). Follows x (Scalar x) (cell_of Z x) path (touches_of behind)) e f

        by : (e : Ending) → Ends e → IsBehind p t x l (paths_from_exit t l) [] 1 (statements_count t.body) exit.act (touches_of behind) e → (path : List Event) × Whole (paths_from_exit t l) path × Follows x (Scalar x) (cell_of S x) path (touches_of behind)
        by (going u) k g = (g.followed.0, inl g.followed.1, moved g.scope g.followed.0 (there g.scope g.iterations g.place) g.followed.2)
        by (stopped u) k g = (g.followed.0, inr g.followed.1, moved g.scope g.followed.0 (there g.scope g.iterations g.place) g.followed.2)
        by (failed fault n) k g = absurd k

    module _ (dead : IsLiveAfter t l x → ⊥) where
      pub unneeded_behind : needs behind (cell_of S x) ≡ false
      unneeded_behind = not_so _ (λ o. let f = exit_followed in let r = f.2.read o in dead (inl (r.0, record { path = f.0; leads = f.1; reads = r.1 })))

      pub written_behind : is_among x (flat_map saved_in t.decls) ≡ true → cell_of S x ≡ Scalar x → written behind (cell_of S x) ≡ true
      written_behind saved own = by (overwrites x exit_followed.0) refl
        where
          by : (b : Bool) → overwrites x exit_followed.0 ≡ b → written behind (cell_of S x) ≡ true
          by true e = exit_followed.2.written own e
          by false e = absurd (dead (inr (record { saved = saved; path = exit_followed.0; leads = exit_followed.1; kept = e })))

      pub unwanted_behind : (shown : Cell → Bool) → (shown (cell_of S x) ≡ true → (is_among x (flat_map saved_in t.decls) ≡ true) × (cell_of S x ≡ Scalar x)) → wants shown behind (cell_of S x) ≡ false
      unwanted_behind shown h = not_so _ (λ w. elim (or_split (needs behind (cell_of S x)) (shown (cell_of S x) && not (written behind (cell_of S x))) w) [
        | inl n ↦ (let z : false ≡ true = sym unneeded_behind ∙ n in untrue z)
        | inr k ↦ (
            let parts = and_split (shown (cell_of S x)) (not (written behind (cell_of S x))) k in
            let why = h parts.0 in
            let z : false ≡ true = sym (not_true (written behind (cell_of S x)) parts.1) ∙ written_behind why.0 why.1 in
            untrue z
            )
      ])
