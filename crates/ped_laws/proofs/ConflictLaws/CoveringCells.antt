-- The cells that references touch: one cell has one name, and a copy tells the iterations that it belongs to.
use Rattle.std.proofs.Common.{◌≡◌, ℕ, suc, ◌+◌, ◌≤◌, List, [], ◌∷◌, ◌++◌, length, Bool, true, false, refl, sym, ap, ◌∙◌, ◌⊎◌, inl, inr, arith, Some, if◌then◌else◌, codes}
use Rattle.std.proofs.lemmas.List.{length-append, length-map}
use Rattle.ped_flow.specs.ped_base.specs.Lists.{is_same_text, is_among}
use Rattle.ped_flow.specs.ped_tree.specs.Tree.{ExprTree, Head, StmtTrees, Do, ProgramTree}
use Rattle.ped_flow.specs.ped_tree.specs.Nests.{Loop}
use Rattle.ped_flow.specs.ped_tree.specs.Numbering.{statement_with}
use Rattle.ped_flow.specs.ped_tree.specs.Grammar.Words.{is_name}
use Rattle.ped_graph.specs.ped_symbols.specs.Kinds.{kind_in}
use Rattle.ped_eval.specs.ped_store.specs.Cells.{Cell, Scalar, Element, Private, In, Out, Iteration}
use Rattle.ped_eval.specs.ped_store.specs.Stores.{Store}
use Rattle.ped_eval.specs.ped_store.specs.Acts.{Turn, iterations_of}
use Rattle.ped_graph.specs.ped_symbols.specs.RightUses.RightUses.{is_scalar}
use Rattle.ped_flow.specs.ped_affine.specs.Ranges.{Setting}
use Rattle.ped_eval.specs.Scopes.{Scope, turns_of, cell_of, names_in}
use Rattle.ped_eval.specs.Outcomes.{setting_of}
use Rattle.ped_laws.proofs.CoveringLaws.Texts.{text_is}
use Rattle.ped_laws.specs.Conflicts.Making.{StandsFor}
use Rattle.ped_laws.specs.Conflicts.Reaching.{Reached}
use Rattle.ped_laws.proofs.ConflictLaws.CoveringNests.{is_of}
use Rattle.ped_laws.proofs.ConflictLaws.CoveringOwners.{private_copied}

-- the name of a cell
abbrev pub name_in : Cell → List ℕ
name_in (Scalar x) = x
name_in (Element x subscripts) = x
name_in (Private x path) = x
name_in In = codes "(IN)"
name_in Out = codes "(OUT)"

pub name_of_scalar : (scope : Scope) (x : List ℕ) → name_in (cell_of scope x) ≡ x
name_of_scalar [] x = refl
name_of_scalar (f ∷ outer) x = go (is_among x f.private) (name_of_scalar outer x)
  where
    go : (b : Bool) → name_in (cell_of outer x) ≡ x → name_in (if b then Private x (iterations_of (turns_of (f ∷ outer))) else cell_of outer x) ≡ x
    go true h = refl
    go false h = h

-- a cell has the name of the reference that touches it
pub name_of_cell : (t : ProgramTree) (scope : Scope) (u : Store) (x : List ℕ) (subscripts : List ExprTree) (c : Cell) → StandsFor t (names_in (setting_of t) scope) u x subscripts c → name_in c ≡ x
name_of_cell t scope u x (e ∷ es) c h = ap name_in h.2
name_of_cell t scope u x [] c h = ap name_in h ∙ go (is_same_text x (codes "(IN)")) (is_same_text x (codes "(OUT)")) refl refl
  where
    go : (b d : Bool) → is_same_text x (codes "(IN)") ≡ b → is_same_text x (codes "(OUT)") ≡ d → name_in (if b then In else (if d then Out else cell_of scope x)) ≡ x
    go true d e f = sym (text_is x (codes "(IN)") e)
    go false true e f = sym (text_is x (codes "(OUT)") f)
    go false false e f = name_of_scalar scope x

-- a cell is that of an array, that of a name that no variable has, or what a scalar stands for
pub kind_of_cell : (t : ProgramTree) (scope : Scope) (u : Store) (x : List ℕ) (subscripts : List ExprTree) (c : Cell) → StandsFor t (names_in (setting_of t) scope) u x subscripts c
    → (is_scalar (kind_in t) x ≡ false) ⊎ ((is_name x ≡ false) ⊎ (c ≡ cell_of scope x))
kind_of_cell t scope u x (e ∷ es) c h = inl h.3
kind_of_cell t scope u x [] c h = inr (go (is_same_text x (codes "(IN)")) (is_same_text x (codes "(OUT)")) refl refl h)
  where
    go : (b d : Bool) → is_same_text x (codes "(IN)") ≡ b → is_same_text x (codes "(OUT)") ≡ d → c ≡ (if b then In else (if d then Out else cell_of scope x)) → (is_name x ≡ false) ⊎ (c ≡ cell_of scope x)
    go true d e f k = inl (ap is_name (text_is x (codes "(IN)") e))
    go false true e f k = inl (ap is_name (text_is x (codes "(OUT)") f))
    go false false e f k = inr k

-- how many iterations a copy is named by
abbrev pub depth_of : Cell → ℕ
depth_of (Private x path) = length path
depth_of (Scalar x) = 0
depth_of (Element x subscripts) = 0
depth_of In = 0
depth_of Out = 0

abbrev pub iteration_of : Turn → Iteration
iteration_of i = record { statement = i.statement; number = i.number }

path_long : (is : List Turn) → length (iterations_of is) ≡ length is
path_long is = length-map is iteration_of

longer : (is : List Turn) (i : Turn) (n : ℕ) → n ≤ length is → n ≤ length (is ++ i ∷ [])
longer is i n h = omega (arith, h, length-append is (i ∷ []))

-- a copy is named by no more iterations than stand round the place
pub no_deeper : (scope : Scope) (x : List ℕ) → depth_of (cell_of scope x) ≤ length (turns_of scope)
no_deeper [] x = omega arith
no_deeper (f ∷ outer) x = go (is_among x f.private) (no_deeper outer x)
  where
    go : (b : Bool) → depth_of (cell_of outer x) ≤ length (turns_of outer) → depth_of (if b then Private x (iterations_of (turns_of (f ∷ outer))) else cell_of outer x) ≤ length (turns_of (f ∷ outer))
    go true h = omega (arith, path_long (turns_of (f ∷ outer)))
    go false h = longer (turns_of outer) f.turn (depth_of (cell_of outer x)) h

-- an item of a list with one more at its end is the last, or one of those before
abbrev LastOr : List Turn → Turn → List Turn → Turn → List Turn → Type 0
LastOr xs z before i more = ((xs ≡ before) × (z ≡ i)) ⊎ ((rest : List Turn) × (xs ≡ before ++ i ∷ rest))

last_or : (xs : List Turn) (z : Turn) (before : List Turn) (i : Turn) (more : List Turn) → xs ++ z ∷ [] ≡ before ++ i ∷ more → LastOr xs z before i more
last_or [] z [] i more e = inl (refl, cc)
last_or (x ∷ xs) z [] i more e = let h : x ≡ i = cc in inr (xs, ap (λ (y : Turn). y ∷ xs) h)
last_or [] z (y ∷ before) i more e = absurd (none before (tail_of z y (before ++ i ∷ more) e))
  where
    none : (before : List Turn) → [] ≡ before ++ i ∷ more → ⊥
    none [] e = cc
    none (y ∷ before) e = cc

    tail_of : (z y : Turn) (ys : List Turn) → z ∷ [] ≡ y ∷ ys → [] ≡ ys
    tail_of z y ys e = cc
last_or (x ∷ xs) z (y ∷ before) i more e =
    let head : x ≡ y = head_is x y (xs ++ z ∷ []) (before ++ i ∷ more) e in
    elim (last_or xs z before i more (tail_is x y (xs ++ z ∷ []) (before ++ i ∷ more) e)) [
      | inl h ↦ inl ((λ k. head k ∷ h.0 k), h.1)
      | inr h ↦ inr (h.0, (λ k. head k ∷ h.1 k))
    ]
  where
    head_is : (x y : Turn) (xs ys : List Turn) → x ∷ xs ≡ y ∷ ys → x ≡ y
    head_is x y xs ys e = cc

    tail_is : (x y : Turn) (xs ys : List Turn) → x ∷ xs ≡ y ∷ ys → xs ≡ ys
    tail_is x y xs ys e = cc

pub head_is : (h k : Head) (b c : StmtTrees) → Some (Do h b) ≡ Some (Do k c) → h ≡ k
head_is h k b c e = cc

-- in an iteration of a DO that names a scalar in PRIVATE the scalar stands for a copy of that iteration, or of one in it
pub deeper : (t : ProgramTree) (s : Setting) (first : Store) (x : List ℕ) (h : Head) (body : StmtTrees) (i : Turn) (before : List Turn) (nest : List Loop) (scope : Scope) (more : List Turn) → Reached t s first nest scope
    → turns_of scope ≡ before ++ i ∷ more → statement_with i.statement t ≡ Some (Do h body) → is_among x h.private ≡ true → suc (length before) ≤ depth_of (cell_of scope x)
deeper t s first x h body i before nest [] more r e stands among = absurd (none before e)
  where
    none : (before : List Turn) → [] ≡ before ++ i ∷ more → ⊥
    none [] e = cc
    none (y ∷ before) e = cc
deeper t s first x h body i before nest (f ∷ outer) more r e stands among =
    elim (last_or (turns_of outer) f.turn before i more e) [
      | inl here ↦
          let of = is_of t s first outer r.1 f r.3 in
          let heads : h ≡ r.1.head = head_is h r.1.head body of.body (sym stands ∙ ap (λ (n : ℕ). statement_with n t) (ap (λ (z : Turn). z.statement) (sym here.1) ∙ of.statement) ∙ of.stands) in
          let copied = private_copied t s first outer r.1 f x r.3 (ap (λ (z : Head). is_among x z.private) (sym heads) ∙ among) in
          at_last (is_among x f.private) copied (ap length here.0)
      | inr there ↦ further (is_among x f.private) there.0 there.1 (deeper t s first x h body i before r.0 outer there.0 r.4 there.1 stands among)
    ]
  where
    paths : length (iterations_of (turns_of (f ∷ outer))) ≡ length (turns_of outer) + 1
    paths = path_long (turns_of (f ∷ outer)) ∙ length-append (turns_of outer) (f.turn ∷ [])

    at_last : (b : Bool) → b ≡ true → length (turns_of outer) ≡ length before → suc (length before) ≤ depth_of (if b then Private x (iterations_of (turns_of (f ∷ outer))) else cell_of outer x)
    at_last true k l = omega (arith, paths, l)
    at_last false k l = absurd cc

    further : (b : Bool) (rest : List Turn) → turns_of outer ≡ before ++ i ∷ rest → suc (length before) ≤ depth_of (cell_of outer x) → suc (length before) ≤ depth_of (if b then Private x (iterations_of (turns_of (f ∷ outer))) else cell_of outer x)
    further true rest l k = omega (arith, paths, ap length l, length-append before (i ∷ rest))
    further false rest l k = k
