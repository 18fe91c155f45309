-- The cell of a scalar at a place where iterations have copies of it by PRIVATE lists alone.
use Rattle.std.proofs.Common.{◌≡◌, ℕ, zero, suc, ◌+◌, ◌≤◌, List, [], ◌∷◌, ◌++◌, take, length, Bool, true, false, ◌||◌, refl, sym, ap, ◌∙◌, subst, inl, arith, Some, if◌then◌else◌}
use Rattle.std.proofs.lemmas.Bool.{or_parts}
use Rattle.std.proofs.lemmas.List.{length-append}
use Rattle.std.proofs.lemmas.List.Folds.{list_any-append}
use Rattle.ped_laws.specs.ped_flow.specs.ped_base.specs.Lists.{is_same_text, is_among}
use Rattle.ped_laws.specs.ped_flow.specs.ped_tree.specs.Tree.{StmtTrees, Do, ProgramTree}
use Rattle.ped_laws.specs.ped_flow.specs.ped_tree.specs.Nests.{Loop}
use Rattle.ped_laws.specs.ped_flow.specs.ped_tree.specs.NamesIn.{loop_variables, all_loop_variables}
use Rattle.ped_laws.specs.ped_flow.specs.ped_tree.specs.Numbering.{statement_with}
use Rattle.ped_laws.specs.ped_flow.specs.ped_affine.specs.Ranges.{Setting}
use Rattle.ped_laws.specs.ped_graph.specs.Owners.{level_by, private_level}
use Rattle.ped_laws.specs.ped_eval.specs.ped_store.specs.Cells.{Cell, Scalar, Private}
use Rattle.ped_laws.specs.ped_eval.specs.ped_store.specs.Stores.{Store}
use Rattle.ped_laws.specs.ped_eval.specs.ped_store.specs.Acts.{Turn, iterations_of}
use Rattle.ped_laws.specs.ped_eval.specs.Scopes.{Frame, Scope, turns_of, cell_of}
use Rattle.ped_laws.specs.ped_eval.specs.Loops.{inner_variables}
use Rattle.ped_laws.specs.Acts.Orders.{IsIn}
use Rattle.ped_laws.specs.Conflicts.Reaching.{IsEntered, Reached}
use Rattle.ped_laws.proofs.ActLaws.Lists.{in_left, in_right}
use Rattle.ped_laws.proofs.RunLaws.Turning.{inner_among}
use Rattle.ped_laws.proofs.ConflictLaws.CoveringNests.{reached_are, same_depth}
use Rattle.ped_laws.proofs.ConflictLaws.CoveringOwners.{level_within}
use Rattle.ped_laws.proofs.ConflictLaws.PossibleOwn.{not_so}
use Rattle.ped_rows.proofs.MeetingLaws.PrivateOwners.{not_zero}

or_none : (a b : Bool) → a ≡ false → (a || b) ≡ b
or_none true b h = absurd cc
or_none false b h = refl

or_nothing : (a b : Bool) → b ≡ false → (a || b) ≡ a
or_nothing true b h = refl
or_nothing false b h = h

-- where the name is the variable of no DO in a PARALLEL DO, an iteration has a copy of it by the PRIVATE list alone
copied_is : (x : List ℕ) (parallel : Bool) (variable : List ℕ) (private : List (List ℕ)) (body : StmtTrees) → (parallel ≡ true → (is_same_text x variable || is_among x (all_loop_variables body)) ≡ false)
    → is_among x (if parallel then variable ∷ (private ++ inner_variables parallel body) else private) ≡ is_among x private
copied_is x false variable private body h = refl
copied_is x true variable private body h =
    let p = or_parts (is_same_text x variable) (is_among x (all_loop_variables body)) (h refl) in
    let none : is_among x (inner_variables true body) ≡ false = not_so (is_among x (inner_variables true body)) (is_among x (all_loop_variables body)) (inner_among true body x) p.1 in
    or_none (is_same_text x variable) (is_among x (private ++ inner_variables true body)) p.0
    ∙ list_any-append (is_same_text x) private (inner_variables true body)
    ∙ or_nothing (is_among x private) (is_among x (inner_variables true body)) none

-- the level of the owner, with one more loop further in
level_last : (x : List ℕ) (ls : List Loop) (l : Loop) → is_among x l.head.private ≡ true → private_level x (ls ++ l ∷ []) ≡ suc (length ls)
level_last x [] l h = ap (λ (b : Bool). level_by 0 b) h
level_last x (m ∷ ls) l h =
    ap (λ (n : ℕ). level_by n (is_among x m.head.private)) (level_last x ls l h)
    ∙ ap (λ (b : Bool). if b then (if is_among x m.head.private then 1 else 0) else suc (suc (length ls))) (not_zero (length ls))

level_other : (x : List ℕ) (ls : List Loop) (l : Loop) → is_among x l.head.private ≡ false → private_level x (ls ++ l ∷ []) ≡ private_level x ls
level_other x [] l h = ap (λ (b : Bool). level_by 0 b) h
level_other x (m ∷ ls) l h = ap (λ (n : ℕ). level_by n (is_among x m.head.private)) (level_other x ls l h)

take_all : {X : Type 0} (n : ℕ) (xs : List X) → n ≡ length xs → take n xs ≡ xs
take_all zero [] h = refl
take_all zero (x ∷ xs) h = absurd (omega (arith, h))
take_all (suc n) [] h = refl
take_all (suc n) (x ∷ xs) h = ap (λ (ys : List _). x ∷ ys) (take_all n xs (omega (arith, h)))

take_first : {X : Type 0} (n : ℕ) (xs ys : List X) → n ≤ length xs → take n (xs ++ ys) ≡ take n xs
take_first zero xs ys h = refl
take_first (suc n) [] ys h = absurd (omega (arith, h))
take_first (suc n) (x ∷ xs) ys h = ap (λ (zs : List _). x ∷ zs) (take_first n xs ys (omega (arith, h)))

-- the name is the variable of no PARALLEL DO of the nest, nor of a DO in one
abbrev pub HasNoCopies : ProgramTree → List ℕ → List Loop → Type 0
HasNoCopies t x nest = (l : Loop) (body : StmtTrees) → IsIn l nest → statement_with l.number t ≡ Some (Do l.head body) → l.head.parallel ≡ true → is_among x (loop_variables (Do l.head body)) ≡ false

-- the cell of a scalar by the level of its owner
abbrev pub CellBy : List ℕ → List Loop → List Turn → Cell → Type 0
CellBy x nest turns c = (private_level x nest ≡ 0 → c ≡ Scalar x) × ((k : ℕ) → private_level x nest ≡ suc k → c ≡ Private x (iterations_of (take (suc k) turns)))

-- the same, one iteration further in
one_more : (x : List ℕ) (nest around : List Loop) (l : Loop) (f : Frame) (outer : Scope) → nest ≡ around ++ l ∷ [] → is_among x f.private ≡ is_among x l.head.private → length around ≡ length (turns_of outer)
    → CellBy x around (turns_of outer) (cell_of outer x) → CellBy x nest (turns_of (f ∷ outer)) (cell_of (f ∷ outer) x)
one_more x nest around l f outer is own depth = go (is_among x f.private) refl
  where
    last : is_among x f.private ≡ true → private_level x nest ≡ suc (length around)
    last e = ap (private_level x) is ∙ level_last x around l (sym own ∙ e)

    other : is_among x f.private ≡ false → private_level x nest ≡ private_level x around
    other e = ap (private_level x) is ∙ level_other x around l (sym own ∙ e)

    go : (b : Bool) → is_among x f.private ≡ b → CellBy x around (turns_of outer) (cell_of outer x) → CellBy x nest (turns_of (f ∷ outer)) (if b then Private x (iterations_of (turns_of (f ∷ outer))) else cell_of outer x)
    go true e more = (
      (λ h. absurd (let level = last e in omega (arith, level, h))),
      λ k h.
          let level = last e in
          let long : length (turns_of outer ++ f.turn ∷ []) ≡ length (turns_of outer) + 1 = length-append (turns_of outer) (f.turn ∷ []) in
          ap (λ (ts : List Turn). Private x (iterations_of ts)) (sym (take_all (suc k) (turns_of outer ++ f.turn ∷ []) (omega (arith, level, h, long, depth)))),
    )
    go false e more = (
      (λ h. more.0 (sym (other e) ∙ h)),
      λ k h.
          let level : private_level x around ≡ suc k = sym (other e) ∙ h in
          let within = level_within x around in
          more.1 k level ∙ ap (λ (ts : List Turn). Private x (iterations_of ts)) (sym (take_first (suc k) (turns_of outer) (f.turn ∷ []) (omega (arith, level, within, depth)))),
    )

module _ (t : ProgramTree) (s : Setting) (first : Store) (x : List ℕ) where
  private_alone : (outer : Scope) (l : Loop) (f : Frame) → (e : IsEntered t s first outer l f) → (l.head.parallel ≡ true → is_among x (loop_variables (Do l.head e.body)) ≡ false) → is_among x f.private ≡ is_among x l.head.private
  private_alone outer l f e none = ap (λ (g : Frame). is_among x g.private) e.is ∙ copied_is x l.head.parallel l.head.variable l.head.private e.body none

  pub cell_by_owner : (nest : List Loop) (scope : Scope) → HasNoCopies t x nest → Reached t s first nest scope → CellBy x nest (turns_of scope) (cell_of scope x)
  cell_by_owner nest [] none reached = ((λ h. refl), λ k h. absurd (let level : 0 ≡ suc k = sym (ap (private_level x) reached) ∙ h in omega (arith, level)))
  cell_by_owner nest (f ∷ outer) none reached =
      let around : List Loop = reached.0 in
      let l : Loop = reached.1 in
      let e = reached.3 in
      one_more x nest around l f outer reached.2
      (private_alone outer l f e (none l e.body (subst (IsIn l) (sym reached.2) (in_right l around (l ∷ []) (inl refl))) e.stands))
      (same_depth t around (turns_of outer) (reached_are t s first around outer reached.4))
      (cell_by_owner around outer (λ m body i. none m body (subst (IsIn m) (sym reached.2) (in_left m around (l ∷ []) i))) reached.4)
