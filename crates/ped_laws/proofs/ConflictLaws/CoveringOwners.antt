-- References that touch one cell of a scalar belong to one DO, in one iteration of it, or to none.
use Rattle.std.proofs.Common.{◌≡◌, ℕ, zero, suc, ◌≤◌, List, [], ◌∷◌, ◌++◌, length, Bool, true, false, ◌||◌, eqb-true, refl, sym, ap, ◌∙◌, ◌⊎◌, inl, inr, arith, Option, Some, None, if◌then◌else◌}
use Rattle.std.specs.Prelude.{◌==◌}
use Rattle.std.specs.List.{list_all}
use Rattle.std.specs.Option.{option_or}
use Rattle.std.proofs.lemmas.Bool.{both_ways, and_parts, false_from_ne_true}
use Rattle.std.proofs.lemmas.Bool.Decides.{nat_tests}
use Rattle.std.proofs.lemmas.List.{append_assoc, append-nil}
use Rattle.std.proofs.lemmas.List.Folds.{list_any-append}
use Rattle.ped_flow.specs.ped_base.specs.Lists.{is_same_text, is_among}
use Rattle.ped_flow.specs.ped_tree.specs.Tree.{ProgramTree}
use Rattle.ped_flow.specs.ped_tree.specs.Nests.{Loop}
use Rattle.ped_graph.specs.ped_refs.specs.References.{innermost_private}
use Rattle.ped_graph.specs.Owners.{is_same_owner, level_by, private_level}
use Rattle.ped_eval.specs.ped_store.specs.Cells.{Cell, Scalar, Element, Private, In, Out, Iteration}
use Rattle.ped_eval.specs.ped_store.specs.Stores.{Store}
use Rattle.ped_eval.specs.ped_store.specs.Acts.{Turn, iterations_of}
use Rattle.ped_laws.proofs.ActLaws.Renamings.{or_left, or_right}
use Rattle.ped_flow.specs.ped_affine.specs.Ranges.{Setting}
use Rattle.ped_eval.specs.Scopes.{Frame, Scope, turns_of, cell_of}
use Rattle.ped_eval.specs.Loops.{Entered, entered_with}
use Rattle.ped_eval.specs.Outcomes.{setting_of}
use Rattle.ped_laws.proofs.CoveringLaws.Texts.{text_is}
use Rattle.ped_laws.specs.Conflicts.Reaching.{IsEntered, Reached}
use Rattle.ped_laws.proofs.ConflictLaws.CoveringNests.{IsOf, AreOf, reached_are, same_depth, one_nest}

-- the PRIVATE names of a DO are among the names of which its iterations have copies
copied_by : (x : List ℕ) (e : Entered) (parallel : Bool) → is_among x e.head.private ≡ true → is_among x (if parallel then e.head.variable ∷ (e.head.private ++ e.inner) else e.head.private) ≡ true
copied_by x e false h = h
copied_by x e true h =
    or_right (is_same_text x e.head.variable) (is_among x (e.head.private ++ e.inner))
    (list_any-append (is_same_text x) e.head.private e.inner ∙ or_left (is_among x e.head.private) (is_among x e.inner) h)

pub private_copied : (t : ProgramTree) (s : Setting) (first : Store) (outer : Scope) (l : Loop) (f : Frame) (x : List ℕ) → IsEntered t s first outer l f → is_among x l.head.private ≡ true → is_among x f.private ≡ true
private_copied t s first outer l f x e h = ap (λ (g : Frame). is_among x g.private) e.is ∙ copied_by x (entered_with (setting_of t) l.number l.head e.body e.seen e.bounds) l.head.parallel h

not_private : (t : ProgramTree) (s : Setting) (first : Store) (outer : Scope) (l : Loop) (f : Frame) (x : List ℕ) → IsEntered t s first outer l f → is_among x f.private ≡ false → is_among x l.head.private ≡ false
not_private t s first outer l f x e h = false_from_ne_true (is_among x l.head.private) (λ k. both_ways (is_among x f.private) h (private_copied t s first outer l f x e k))

-- a DO further in that doesn't name the variable changes nothing
no_owner_more : (x : List ℕ) (ls : List Loop) (l : Loop) → is_among x l.head.private ≡ false → innermost_private x (ls ++ l ∷ []) ≡ innermost_private x ls
no_owner_more x [] l h = ap (λ (b : Bool). option_or None (if b then Some l else None)) h
no_owner_more x (m ∷ ls) l h = ap (λ (o : Option Loop). option_or o (if is_among x m.head.private then Some m else None)) (no_owner_more x ls l h)

no_level_more : (x : List ℕ) (ls : List Loop) (l : Loop) → is_among x l.head.private ≡ false → private_level x (ls ++ l ∷ []) ≡ private_level x ls
no_level_more x [] l h = ap (λ (b : Bool). level_by 0 b) h
no_level_more x (m ∷ ls) l h = ap (λ (n : ℕ). level_by n (is_among x m.head.private)) (no_level_more x ls l h)

-- no DO of the nest names the variable
abbrev pub HasNone : List ℕ → List Loop → Type 0
HasNone x nest = (innermost_private x nest ≡ None) × (private_level x nest ≡ 0)

-- the copy of a scalar belongs to an iteration of one of these, and no DO further in names it
pub record IsCopyIn (t : ProgramTree) (s : Setting) (first : Store) (x : List ℕ) (nest : List Loop) (round : List Turn) (path : List Iteration) : Type 0 where
  pub front : List Loop
  pub outer : Scope
  pub more : List Turn
  pub reached : Reached t s first front outer
  pub turns : round ≡ turns_of outer ++ more
  pub is : path ≡ iterations_of (turns_of outer)
  pub owner : innermost_private x nest ≡ innermost_private x front
  pub level : private_level x nest ≡ private_level x front

-- the cell of a scalar is its own, where no DO round it names it; or the copy of an iteration
abbrev CellOf : ProgramTree → Setting → Store → List ℕ → List Loop → Scope → Cell → Type 0
CellOf t s first x nest scope c = ((c ≡ Scalar x) × HasNone x nest) ⊎ ((path : List Iteration) × (c ≡ Private x path) × IsCopyIn t s first x nest (turns_of scope) path)

module _ (t : ProgramTree) (s : Setting) (first : Store) (x : List ℕ) where
  pub cell_in : (nest : List Loop) (scope : Scope) → Reached t s first nest scope → CellOf t s first x nest scope (cell_of scope x)
  cell_in nest [] h = inl (refl, (ap (innermost_private x) h, ap (private_level x) h))
  cell_in nest (f ∷ outer) h = go (is_among x f.private) refl (cell_in h.0 outer h.4)
    where
      owner_more : is_among x f.private ≡ false → innermost_private x nest ≡ innermost_private x h.0
      owner_more e = ap (innermost_private x) h.2 ∙ no_owner_more x h.0 h.1 (not_private t s first outer h.1 f x h.3 e)

      level_more : is_among x f.private ≡ false → private_level x nest ≡ private_level x h.0
      level_more e = ap (private_level x) h.2 ∙ no_level_more x h.0 h.1 (not_private t s first outer h.1 f x h.3 e)

      go : (b : Bool) → is_among x f.private ≡ b → CellOf t s first x h.0 outer (cell_of outer x)
          → CellOf t s first x nest (f ∷ outer) (if b then Private x (iterations_of (turns_of (f ∷ outer))) else cell_of outer x)
      go true e k = inr (
        iterations_of (turns_of (f ∷ outer)),
        refl,
        record { front = nest; outer = f ∷ outer; more = []; reached = h; turns = sym (append-nil (turns_of (f ∷ outer))); is = refl; owner = refl; level = refl },
      )
      go false e (inl k) = inl (k.0, (owner_more e ∙ k.1.0, level_more e ∙ k.1.1))
      go false e (inr k) = inr (
        k.0,
        k.1,
        record {
          front = k.2.front;
          outer = k.2.outer;
          more = k.2.more ++ f.turn ∷ [];
          reached = k.2.reached;
          turns = ap (λ (is : List Turn). is ++ f.turn ∷ []) k.2.turns ∙ append_assoc (turns_of k.2.outer) k.2.more (f.turn ∷ []);
          is = k.2.is;
          owner = owner_more e ∙ k.2.owner;
          level = level_more e ∙ k.2.level;
        },
      )

not_zero : (n : ℕ) → (suc n == 0) ≡ false
not_zero n = grind (arith, nat_tests)

level_few : (x : List ℕ) (n count : ℕ) (b : Bool) → n ≤ count → level_by n b ≤ suc count
level_few x zero count true h = omega arith
level_few x zero count false h = omega arith
level_few x (suc n) count b h = let e : level_by (suc n) b ≡ suc (suc n) = ap (λ (z : Bool). if z then (if b then 1 else 0) else suc (suc n)) (not_zero n) in omega (arith, h, e)

pub level_within : (x : List ℕ) (nest : List Loop) → private_level x nest ≤ length nest
level_within x [] = omega arith
level_within x (l ∷ ls) = level_few x (private_level x ls) (length ls) (is_among x l.head.private) (level_within x ls)

-- iterations at the front of both that are the same, as deep as the level of the owner
pub record ShareFront (level : ℕ) (is js : List Turn) : Type 0 where
  pub first : List Turn
  pub second : List Turn
  pub first_more : List Turn
  pub second_more : List Turn
  pub source : is ≡ first ++ first_more
  pub sink : js ≡ second ++ second_more
  pub same : iterations_of first ≡ iterations_of second
  pub deep : level ≤ length first

-- both belong to one DO or to none, and stand in one iteration of it
abbrev pub HaveOneOwner : List ℕ → List Loop → List Loop → List Turn → List Turn → Type 0
HaveOneOwner x ls ms is js = (innermost_private x ls ≡ innermost_private x ms) × ShareFront (private_level x ls) is js

pub none_owned : (x : List ℕ) (ls ms : List Loop) (is js : List Turn) → HasNone x ls → HasNone x ms → HaveOneOwner x ls ms is js
none_owned x ls ms is js h k = (h.0 ∙ sym k.0, record { first = []; second = []; first_more = is; second_more = js; source = refl; sink = refl; same = refl; deep = omega (arith, h.1) })

abbrev path_of : Cell → List Iteration
path_of (Private x path) = path
path_of (Scalar x) = []
path_of (Element x js) = []
path_of In = []
path_of Out = []

module _ (t : ProgramTree) (s q : Setting) (first second : Store) (x : List ℕ) (ls ms : List Loop) (source sink : Scope) (reached_source : Reached t s first ls source) (reached_sink : Reached t q second ms sink) where
  copies_owned : (path other : List Iteration) → IsCopyIn t s first x ls (turns_of source) path → IsCopyIn t q second x ms (turns_of sink) other → path ≡ other → HaveOneOwner x ls ms (turns_of source) (turns_of sink)
  copies_owned path other h k e =
      let same : iterations_of (turns_of h.outer) ≡ iterations_of (turns_of k.outer) = sym h.is ∙ e ∙ k.is in
      let of_source = reached_are t s first h.front h.outer h.reached in
      let of_sink = reached_are t q second k.front k.outer k.reached in
      let fronts : h.front ≡ k.front = one_nest t h.front k.front (turns_of h.outer) (turns_of k.outer) of_source of_sink same in (
        h.owner ∙ ap (innermost_private x) fronts ∙ sym k.owner,
        record {
          first = turns_of h.outer;
          second = turns_of k.outer;
          first_more = h.more;
          second_more = k.more;
          source = h.turns;
          sink = k.turns;
          same = same;
          deep = omega (arith, h.level, level_within x h.front, same_depth t h.front (turns_of h.outer) of_source);
        },
      )

  -- so it is with references that touch one cell of a scalar
  pub one_owner : cell_of source x ≡ cell_of sink x → HaveOneOwner x ls ms (turns_of source) (turns_of sink)
  one_owner e = go (cell_in t s first x ls source reached_source) (cell_in t q second x ms sink reached_sink)
    where
      go : CellOf t s first x ls source (cell_of source x) → CellOf t q second x ms sink (cell_of sink x) → HaveOneOwner x ls ms (turns_of source) (turns_of sink)
      go (inl h) (inl k) = none_owned x ls ms (turns_of source) (turns_of sink) h.1 k.1
      go (inl h) (inr k) = let c : Scalar x ≡ Private x k.0 = sym h.0 ∙ e ∙ k.1 in absurd cc
      go (inr h) (inl k) = let c : Private x h.0 ≡ Scalar x = sym h.1 ∙ e ∙ k.0 in absurd cc
      go (inr h) (inr k) = let c : Private x h.0 ≡ Private x k.0 = sym h.1 ∙ e ∙ k.1 in copies_owned h.0 k.0 h.2 k.2 (ap path_of c)

-- a name that no PRIVATE list may hold has no owner
not_among : (p : List ℕ → Bool) (x : List ℕ) (names : List (List ℕ)) → list_all p names ≡ true → p x ≡ false → is_among x names ≡ false
not_among p x [] h k = refl
not_among p x (y ∷ ys) h k = go (is_same_text x y) refl (not_among p x ys (and_parts (p y) (list_all p ys) h).1 k)
  where
    go : (b : Bool) → is_same_text x y ≡ b → is_among x ys ≡ false → b || is_among x ys ≡ false
    go true e more = absurd (both_ways (p x) k (ap p (text_is x y e) ∙ (and_parts (p y) (list_all p ys) h).0))
    go false e more = more

pub holds_among : (p : List ℕ → Bool) (x : List ℕ) (names : List (List ℕ)) → list_all p names ≡ true → is_among x names ≡ true → p x ≡ true
holds_among p x names h k = go (p x) refl
  where
    go : (b : Bool) → p x ≡ b → p x ≡ true
    go true e = e
    go false e = absurd (both_ways (is_among x names) (not_among p x names h e) k)

pub never_private : (t : ProgramTree) (p : List ℕ → Bool) (x : List ℕ) (ls : List Loop) (is : List Turn) → ((l : Loop) (i : Turn) → IsOf t l i → list_all p l.head.private ≡ true) → p x ≡ false → AreOf t ls is → HasNone x ls
never_private t p x [] is all h k = (refl, refl)
never_private t p x (l ∷ ls) [] all h k = absurd k
never_private t p x (l ∷ ls) (i ∷ is) all h k =
    let here = not_among p x l.head.private (all l i k.0) h in
    let more = never_private t p x ls is all h k.1 in (
      (λ z. option_or (more.0 z) (if here z then Some l else None)),
      (λ z. level_by (more.1 z) (here z)),
    )

pub same_owner : (o q : Option Loop) → o ≡ q → is_same_owner o q ≡ true
same_owner o q e = ap (is_same_owner o) (sym e) ∙ itself o
  where
    itself : (o : Option Loop) → is_same_owner o o ≡ true
    itself None = refl
    itself (Some l) = grind (arith, eqb-true)
