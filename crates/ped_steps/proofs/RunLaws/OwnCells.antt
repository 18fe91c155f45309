-- A scalar of which no DO round a place has copies stands for its own cell there.
use Rattle.std.proofs.Common.{◌≡◌, ℕ, List, [], ◌∷◌, ◌++◌, Bool, true, false, ◌||◌, refl, sym, ap, ◌∙◌, inl, inr, if◌then◌else◌}
use Rattle.std.proofs.lemmas.Bool.{both_ways}
use Rattle.std.proofs.lemmas.List.Folds.{list_any-append}
use Rattle.ped_base.specs.Lists.{is_same_text, is_among}
use Rattle.ped_tree.specs.Tree.{ProgramTree}
use Rattle.ped_tree.specs.Nests.{Loop}
use Rattle.ped_weaves.specs.ped_store.specs.Cells.{Scalar, Private}
use Rattle.ped_weaves.specs.ped_store.specs.Acts.{Turn, iterations_of}
use Rattle.ped_weaves.specs.ped_laws.specs.Acts.Orders.{IsIn}
use Rattle.ped_weaves.specs.ped_laws.proofs.ActLaws.Lists.{in_left, in_right}
use Rattle.ped_weaves.specs.ped_eval.specs.Scopes.{Setting, Scope, turns_of, cell_of}
use Rattle.ped_weaves.specs.ped_eval.specs.Loops.{inner_variables}
use Rattle.ped_tree.specs.NamesIn.{all_loop_variables}
use Rattle.ped_weaves.specs.ped_flow.specs.PlainBounds.{nest_round}
use Rattle.ped_weaves.specs.ped_flow.specs.Questions.{LoopOf}
use Rattle.ped_weaves.specs.ped_laws.specs.FlowRuns.Exits.{IsOneToOne, AreIterationsOf}
use Rattle.ped_weaves.specs.ped_laws.proofs.RunLaws.Turning.{inner_among}
use Rattle.ped_steps.specs.Runs.Pasting.{AreTurnsOf, IsPlaceOf}

none_of : (a b : Bool) → a || b ≡ false → (a ≡ false) × (b ≡ false)
none_of true b e = absurd cc
none_of false b e = (refl, e)

-- an iteration is of one of the loops
loop_of : (number : ℕ → ℕ) (ls : List Loop) (ts : List Turn) → AreTurnsOf number ls ts → (u : Turn) → IsIn u ts → (m : Loop) × IsIn m ls × (u.statement ≡ number m.number)
loop_of number [] [] h u i = absurd i
loop_of number [] (t ∷ ts) h u i = absurd h
loop_of number (m ∷ ms) [] h u i = absurd i
loop_of number (m ∷ ms) (t ∷ ts) h u (inl e) = (m, inl refl, ap (λ (z : Turn). z.statement) e ∙ h.0)
loop_of number (m ∷ ms) (t ∷ ts) h u (inr i) = let r = loop_of number ms ts h.2 u i in (r.0, inr r.1, r.2)

module _ (p : Setting) (t : ProgramTree) (one : IsOneToOne p.number) (l : ℕ) (x : List ℕ) where
  -- a DO with this number stands round the statement
  abbrev pub IsRound : ℕ → Type 0
  IsRound n = (m : Loop) × IsIn m (nest_round t l) × (m.number ≡ n)

  module _ (shared : (n : ℕ) (m : LoopOf t n) → IsRound n → is_among x m.head.private ≡ false) (no_index : (n : ℕ) (m : LoopOf t n) → IsRound n → m.head.parallel ≡ true → is_among x (m.head.variable ∷ all_loop_variables m.body) ≡ false) where
    -- no DO round the statement has copies of the scalar
    uncopied : (n : ℕ) (m : LoopOf t n) → IsRound n → is_among x (if m.head.parallel then m.head.variable ∷ (m.head.private ++ inner_variables m.head.parallel m.body) else m.head.private) ≡ false
    uncopied n m round = go m.head.parallel (no_index n m round)
      where
        inner : is_among x (all_loop_variables m.body) ≡ false → (b : Bool) → is_among x (inner_variables true m.body) ≡ b → b ≡ false
        inner h true e = absurd (both_ways (is_among x (all_loop_variables m.body)) h (inner_among true m.body x e))
        inner h false e = refl

        go : (b : Bool) → (b ≡ true → is_among x (m.head.variable ∷ all_loop_variables m.body) ≡ false) → is_among x (if b then m.head.variable ∷ (m.head.private ++ inner_variables b m.body) else m.head.private) ≡ false
        go true h =
            let k = none_of (is_same_text x m.head.variable) (is_among x (all_loop_variables m.body)) (h refl) in
            λ i. k.0 i || (list_any-append (is_same_text x) m.head.private (inner_variables true m.body) ∙ (λ j. shared n m round j || inner k.1 (is_among x (inner_variables true m.body)) refl j)) i
        go false h = shared n m round

    own_round : (S : Scope) → AreIterationsOf p t S → ((u : Turn) → IsIn u (turns_of S) → (m : Loop) × IsIn m (nest_round t l) × (u.statement ≡ p.number m.number)) → cell_of S x ≡ Scalar x
    own_round [] h round = refl
    own_round (f ∷ fs) h round =
        let r = round f.turn (in_right f.turn (turns_of fs) (f.turn ∷ []) (inl refl)) in
        let same = one r.0.number h.0.number (sym r.2 ∙ h.0.turn) in
        ap (λ (b : Bool). if b then Private x (iterations_of (turns_of (f ∷ fs))) else cell_of fs x) (ap (is_among x) h.0.private ∙ uncopied h.0.number h.0.loop (r.0, r.1, same))
        ∙ own_round fs h.1 (λ u i. round u (in_left u (turns_of fs) (f.turn ∷ []) i))

    pub own_cell : (S : Scope) → IsPlaceOf p t l S → cell_of S x ≡ Scalar x
    own_cell S place = own_round S place.iterations (loop_of p.number (nest_round t l) (turns_of S) place.turns)
