-- Parts: what they leave, and what they need.
use Rattle.std.proofs.Common.{◌≡◌, ◌<◌, ℕ, ◌+◌, List, [], ◌∷◌, ◌++◌, Bool, true, false, Option, Some, None, map, length, take, get_or, refl, sym, ap, subst, ◌∙◌, arith}
use Rattle.std.specs.Prelude.{reverse, is_none}
use Rattle.std.proofs.Math.ListN.{set}
use Rattle.std.proofs.Math.Seq.{set-append_seam, take-length}
use Rattle.std.proofs.lemmas.List.{length-take-le, take_more, map-append, reverse-append}
use Rattle.ped_tree.specs.Tree.{StmtTree, StmtTrees, Assign, If, Do, Print, Read, Stop, Comment, no_stmts, more_stmts}
use Rattle.ped_tree.specs.Numbering.{statement_count}
use Rattle.ped_interleavings.specs.ped_eval.specs.Scopes.{Scope}
use Rattle.ped_interleavings.specs.ped_eval.specs.Readiness.{CanRun}
use Rattle.ped_interleavings.specs.ped_eval.proofs.Parts.{rest_can}
use Rattle.ped_interleavings.specs.Lefts.{Left, begins, left_of_all, is_finished}
use Rattle.ped_tree.specs.Views.{stmt_trees}
use Rattle.ped_machine.specs.declared.parts.Part as code
use Rattle.ped_machine.specs.declared.parts.Block.{Block}
use Rattle.ped_machine.specs.Parts.{Turn, Part, base_of, behind_turn, part_view, parts_view, turn_left, parts_left, CanEndAnd, CanGo, is_comment, begins_with_comment, statements_behind, has_some, behind_first, with_statements, first_turn, IsSpent, IsFirstBlock, IsFirstSpent, IsWithoutComments, IsSettled, GoesOn, FirstGoesOn}

front_view : (f : code.Part) (fs : List code.Part) → parts_view (fs ++ f ∷ []) ≡ part_view f ∷ parts_view fs
front_view f fs = ap reverse (map-append part_view fs (f ∷ [])) ∙ reverse-append (map part_view fs) (part_view f ∷ [])

-- a part that is put behind the others that are kept comes first
pub pushed : (fs : List code.Part) (f : code.Part) → parts_view (fs ++ f ∷ []) ≡ part_view f ∷ parts_view fs
pushed fs f = front_view f fs

-- the parts behind the first, and what another first part makes of them
pub last_at : (fs : List code.Part) (f : code.Part) (k : ℕ) → k + 1 ≡ length fs → f ≡ get_or fs k f
    → (ps : List Part) × (parts_view fs ≡ part_view f ∷ ps) × ((g : code.Part) → parts_view (set fs k g) ≡ part_view g ∷ ps)
last_at fs f k all is =
    let front = take k fs in
    let n : length front ≡ k = length-take-le k fs (omega (arith, all)) in
    let whole : fs ≡ front ++ f ∷ [] =
    sym (take-length fs) ∙ ap (λ (j : ℕ). take j fs) (sym all) ∙ take_more fs k f (omega (arith, all)) ∙ ap (λ (h : code.Part). front ++ h ∷ []) (sym is) in (
      parts_view front,
      ap parts_view whole ∙ front_view f front,
      λ g. ap parts_view (ap (λ (xs : List code.Part). set xs k g) whole ∙ ap (λ (j : ℕ). set (front ++ f ∷ []) j g) (sym n) ∙ set-append_seam front f [] g) ∙ front_view g front,
    )

-- other statements that leave the same
pub settled_by : (p : Part) (ps : List Part) (ts : StmtTrees) → IsWithoutComments p.stmts ts → IsSettled (p ∷ ps) (record { stmts = ts; first = p.first; turn = p.turn } ∷ ps)
settled_by p ps ts h = record {
  left = λ scope. h.left p.first scope (turn_left scope p.turn (parts_left ps));
  can = λ table scope k. (h.can table scope p.first k.0, k.1);
  base = λ scope. refl;
}

-- a part of which nothing is left
pub settled_behind : (p : Part) (ps : List Part) → p.stmts ≡ no_stmts → p.turn ≡ None → IsSettled (p ∷ ps) ps
settled_behind p ps e t = record {
  left = λ scope. λ i. left_of_all (sym e i) p.first scope (turn_left scope (sym t i) (parts_left ps));
  can = λ table scope k. subst (λ (o : Option Turn). CanEndAnd table scope o (CanGo table ps)) t k.1;
  base = λ scope. λ i. base_of ps (behind_turn (sym t i) scope);
}

pub settled_not : (ps : List Part) → IsSettled ps ps
settled_not ps = record { left = λ scope. refl; can = λ table scope k. k; base = λ scope. refl }

pub settled_twice : (a b c : List Part) → IsSettled a b → IsSettled b c → IsSettled a c
settled_twice a b c g h = record { left = λ scope. h.left scope ∙ g.left scope; can = λ table scope k. h.can table scope (g.can table scope k); base = λ scope. h.base scope ∙ g.base scope }

-- no comment comes first
pub none_before : (ts : StmtTrees) → begins_with_comment ts ≡ false → IsWithoutComments ts ts
none_before ts h = record { left = λ n scope rest. refl; can = λ table scope n k. k; begins = h }

-- a comment that comes first is passed over
pub one_before : (t : StmtTree) (ts new : StmtTrees) → is_comment t ≡ true → IsWithoutComments ts new → IsWithoutComments (more_stmts t ts) new
one_before (Comment text) ts new e h = record {
  left = λ n scope rest. h.left n scope rest ∙ ap (λ (k : ℕ). left_of_all ts k scope rest) (sym (none n));
  can = λ table scope n k. h.can table scope n (subst (λ (j : ℕ). CanRun table scope j ts) (none n) (rest_can table scope n (Comment text) ts k));
  begins = h.begins;
}
  where
    none : (n : ℕ) → n + 0 ≡ n
    none n = omega arith
one_before (Assign left right) ts new e h = absurd cc
one_before (If c a b) ts new e h = absurd cc
one_before (Do head body) ts new e h = absurd cc
one_before (Print items) ts new e h = absurd cc
one_before (Read items) ts new e h = absurd cc
one_before Stop ts new e h = absurd cc

-- statements of which the first is no comment leave its beginning
pub begins_left : (t : StmtTree) (ts : StmtTrees) (n : ℕ) (scope : Scope) (rest : Left) → is_comment t ≡ false → left_of_all (more_stmts t ts) n scope rest ≡ begins t n scope (left_of_all ts (n + statement_count t) scope rest)
begins_left (Comment text) ts n scope rest e = absurd cc
begins_left (Assign left right) ts n scope rest e = refl
begins_left (If c a b) ts n scope rest e = refl
begins_left (Do head body) ts n scope rest e = refl
begins_left (Print items) ts n scope rest e = refl
begins_left (Read items) ts n scope rest e = refl
begins_left Stop ts n scope rest e = refl

some_left : (ts : StmtTrees) (n : ℕ) (scope : Scope) (o : Option Turn) (rest : Scope → Left) → GoesOn ts o → is_finished (left_of_all ts n scope (turn_left scope o rest)) ≡ false
some_left no_stmts n scope None rest h = absurd h
some_left no_stmts n scope (Some t) rest h = refl
some_left (more_stmts t ts) n scope o rest h = ap is_finished (begins_left t ts n scope (turn_left scope o rest) h)

-- where the first part goes on, something is left
pub parts_open : (p : Part) (ps : List Part) (scope : Scope) → FirstGoesOn (p ∷ ps) → is_finished (parts_left (p ∷ ps) scope) ≡ false
parts_open p ps scope h = some_left p.stmts p.first scope p.turn (parts_left ps) h

-- the first comment is passed over
pub first_passed : (ts new : StmtTrees) → begins_with_comment ts ≡ true → IsWithoutComments (statements_behind ts) new → IsWithoutComments ts new
first_passed no_stmts new e h = absurd cc
first_passed (more_stmts t ts) new e h = one_before t ts new e h

-- fewer parts are behind the first
pub fewer_behind : (ps : List Part) → IsFirstSpent ps → length (behind_first ps) < length ps
fewer_behind [] h = absurd h
fewer_behind (p ∷ ps) h = omega arith

pub settled_first : (ps : List Part) → IsFirstSpent ps → IsSettled ps (behind_first ps)
settled_first [] h = absurd h
settled_first (p ∷ ps) h = settled_behind p ps h.0 h.1

-- whether nothing is left, where the first part goes on if there is one
pub over_none : (ps : List Part) (scope : Scope) → ps ≡ [] → true ≡ is_finished (parts_left ps scope)
over_none ps scope e = ap (λ (qs : List Part). is_finished (parts_left qs scope)) (sym e)

pub over_some : (ps : List Part) (scope : Scope) (b : Block) → IsFirstBlock ps b → FirstGoesOn ps → false ≡ is_finished (parts_left ps scope)
over_some [] scope b h g = absurd h
over_some (p ∷ ps) scope b h g = sym (parts_open p ps scope g)

-- passing over the comments before the first statement
pub settled_block : (ps : List Part) (b : Block) (ts : StmtTrees) (n : ℕ) → IsFirstBlock ps b → n ≡ b.first → IsWithoutComments (stmt_trees b.stmts.now) ts → IsSettled ps (with_statements ts n ps)
settled_block [] b ts n h e w = absurd h
settled_block (p ∷ ps) b ts n h e w =
    subst (λ (k : ℕ). IsSettled (p ∷ ps) (with_statements ts k (p ∷ ps))) (sym (e ∙ h.1))
    (settled_by p ps ts (subst (λ (us : StmtTrees). IsWithoutComments us ts) h.0 w))

pub block_length : (ps : List Part) (ts : StmtTrees) (n : ℕ) → length (with_statements ts n ps) ≡ length ps
block_length [] ts n = refl
block_length (p ∷ ps) ts n = refl

-- with statements of which the first is no comment the first part goes on
pub real_goes : (ps : List Part) (b : Block) (ts : StmtTrees) (n : ℕ) → IsFirstBlock ps b → begins_with_comment ts ≡ false → has_some ts ≡ true → FirstGoesOn (with_statements ts n ps)
real_goes [] b ts n h e s = absurd h
real_goes (p ∷ ps) b no_stmts n h e s = absurd cc
real_goes (p ∷ ps) b (more_stmts t ts) n h e s = e

goes_by : (o : Option Turn) → is_none o ≡ false → GoesOn no_stmts o
goes_by None e = absurd cc
goes_by (Some t) e = tt

none_by : (o : Option Turn) → is_none o ≡ true → o ≡ None
none_by None e = refl
none_by (Some t) e = absurd cc

-- without statements it ends an iteration, or nothing is left of it
pub ends_or_spent : (ps : List Part) (b : Block) (ts : StmtTrees) (n : ℕ) (r : Bool) → IsFirstBlock ps b → has_some ts ≡ false → r ≡ is_none (first_turn (with_statements ts n ps)) → IsSpent r (with_statements ts n ps)
ends_or_spent [] b ts n r h s e = absurd h
ends_or_spent (p ∷ ps) b (more_stmts t ts) n r h s e = absurd cc
ends_or_spent (p ∷ ps) b no_stmts n true h s e = (refl, none_by p.turn (sym e))
ends_or_spent (p ∷ ps) b no_stmts n false h s e = goes_by p.turn (sym e)
