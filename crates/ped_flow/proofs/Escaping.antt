-- When a DO is contained, from its variables one by one.
use Rattle.std.proofs.Common.{◌≡◌, ℕ, ◌+◌, Bool, true, false, ◌||◌, ◌⊎◌, ◌↔◌, IsTrue, List, [], ◌∷◌, ◌++◌, Option, Some, None, refl, sym, ap, ◌∙◌, subst, inl, inr}
use Rattle.std.specs.List.{flat_map}
use Rattle.ped_base.specs.Lists.{is_same_text, is_among}
use Rattle.ped_tree.specs.Tree.{Head, StmtTrees, Do, ProgramTree}
use Rattle.ped_tree.specs.Accesses.{constant_names}
use Rattle.ped_base.proofs.NameEquality.{same_is, same_itself}
use Rattle.ped_tree.specs.NamesIn.{loop_variables}
use Rattle.ped_flow.specs.Questions.{IsLoop, IsFirst, IsReadBehind, IsShownBehind, IsReadLoose, IsIndexIn, IsContained, IsBrokenBy, IsLiveAfter, all_reads_outside}
use Rattle.ped_tree.specs.NamesIn.{saved_in}
use Rattle.ped_flow.specs.Answers.{IsEscape}
use Rattle.ped_flow.specs.Kept.{unless, all_first_outside, reader_else, reader_by}
use Rattle.ped_flow.specs.Escapes.{behind_loop, escape_of, either_escape, escapes_of, escaping}
use Rattle.ped_flow.specs.declared.escapes.Escape.{Escape}
use Rattle.ped_flow.proofs.Truths.{untrue, and_iff, or_iff, or_split, iff_map}
use Rattle.ped_flow.proofs.FirstLaws.{first_map, first_or}
use Rattle.ped_flow.proofs.SumLaws.{least-assoc}
use Rattle.ped_flow.proofs.TreeSummaries.{all_behind-summed}
use Rattle.ped_flow.proofs.Answering.{read_behind, left_is, same_head, same_body}
use Rattle.ped_flow.proofs.LooseReads.{all_outside_first}

or-assoc : (a b c : Bool) → ((a || b) || c) ≡ (a || (b || c))
or-assoc true b c = refl
or-assoc false b c = refl

pub escapes-append : (t : ProgramTree) (l : ℕ) (h : Head) (body : StmtTrees) (xs ys : List (List ℕ)) → escapes_of t l h body (xs ++ ys) ≡ either_escape (escapes_of t l h body xs) (escapes_of t l h body ys)
escapes-append t l h body [] ys = refl
escapes-append t l h body (x ∷ xs) ys =
    let a = escape_of t l h body x in
    let b = escapes_of t l h body xs in
    let c = escapes_of t l h body ys in
    let e : either_escape (either_escape a b) c ≡ either_escape a (either_escape b c) = λ i. record { first = least-assoc a.first b.first c.first i; shown = or-assoc a.shown b.shown c.shown i } in
    ap (either_escape a) (escapes-append t l h body xs ys) ∙ sym e

module _ (t : ProgramTree) (l : ℕ) (h : Head) (body : StmtTrees) (is : IsLoop t l h body) where
  loose_first : (x : List ℕ) (r : Bool) (a : Option ℕ) → is_same_text x h.variable ≡ r → IsFirst (λ k. IsTrue (all_reads_outside (constant_names t.decls) x k body (l + 1))) a → IsFirst (IsReadLoose t l x) (unless r a)
  loose_first x true a e f = λ k s. untrue (sym s.other ∙ ap (λ (g : Head). is_same_text x g.variable) (same_head t l s.loop.head h s.loop.body body s.loop.is is) ∙ e)
  loose_first x false a e f =
      first_map (λ k. IsTrue (all_reads_outside (constant_names t.decls) x k body (l + 1))) (IsReadLoose t l x) a
      (λ k r. record { loop = record { head = h; body = body; is = is }; other = e; reads = r })
      (λ k s. subst (λ (b : StmtTrees). IsTrue (all_reads_outside (constant_names t.decls) x k b (l + 1))) (same_body t l s.loop.head h s.loop.body body s.loop.is is) s.reads) f

  -- a read of this scalar by which the DO isn't contained
  abbrev Breaks : List ℕ → ℕ → Type 0
  Breaks x k = IsReadLoose t l x k ⊎ IsReadBehind t l x k

  breaks_first : (x : List ℕ) → IsFirst (Breaks x) (escape_of t l h body x).first
  breaks_first x =
      first_or (IsReadLoose t l x) (IsReadBehind t l x) (unless (is_same_text x h.variable) (all_first_outside (constant_names t.decls) x body (l + 1))) (behind_loop t l x).first
      (loose_first x (is_same_text x h.variable) (all_first_outside (constant_names t.decls) x body (l + 1)) refl (all_outside_first (constant_names t.decls) x body (l + 1)))
      (read_behind t l x (behind_loop t l x).first (all_behind-summed (constant_names t.decls) x l t.body 1).first)

  shown_is : (x : List ℕ) → IsTrue (escape_of t l h body x).shown ↔ IsShownBehind t l x
  shown_is x =
      iff_map (and_iff ((behind_loop t l x).keeps || (behind_loop t l x).ends) (is_among x (flat_map saved_in t.decls)) (left_is t l x (behind_loop t l x) (all_behind-summed (constant_names t.decls) x l t.body 1)) (λ i. i, λ i. i))
      (λ s. record { saved = s.1; path = s.0.0; leads = s.0.1; kept = s.0.2 }) (λ s. ((s.path, s.leads, s.kept), s.saved))

  -- some of these scalars is so
  abbrev Some_of : List (List ℕ) → (List ℕ → Type 0) → Type 0
  Some_of names P = (x : List ℕ) × IsTrue (is_among x names) × P x

  to_more : (P : List ℕ → Type 0) (y : List ℕ) (ys : List (List ℕ)) → P y ⊎ Some_of ys P → Some_of (y ∷ ys) P
  to_more P y ys (inl p) = (y, ap (λ (b : Bool). b || is_among y ys) (same_itself y), p)
  to_more P y ys (inr s) = (s.0, either_true (is_same_text s.0 y) (is_among s.0 ys) s.1, s.2)
    where
      either_true : (a b : Bool) → b ≡ true → (a || b) ≡ true
      either_true true b e = refl
      either_true false b e = e

  from_more : (P : List ℕ → Type 0) (y : List ℕ) (ys : List (List ℕ)) → Some_of (y ∷ ys) P → P y ⊎ Some_of ys P
  from_more P y ys s = by (or_split (is_same_text s.0 y) (is_among s.0 ys) s.1)
    where
      by : (is_same_text s.0 y ≡ true) ⊎ (is_among s.0 ys ≡ true) → P y ⊎ Some_of ys P
      by (inl e) = inl (subst P (same_is s.0 y e) s.2)
      by (inr e) = inr (s.0, e, s.2)

  some_first : (names : List (List ℕ)) → IsFirst (λ k. Some_of names (λ x. Breaks x k)) (escapes_of t l h body names).first
  some_first [] = λ k s. untrue s.1
  some_first (y ∷ ys) =
      first_map (λ k. Breaks y k ⊎ Some_of ys (λ x. Breaks x k)) (λ k. Some_of (y ∷ ys) (λ x. Breaks x k)) (escapes_of t l h body (y ∷ ys)).first
      (λ k s. to_more (λ x. Breaks x k) y ys s) (λ k s. from_more (λ x. Breaks x k) y ys s)
      (first_or (Breaks y) (λ k. Some_of ys (λ x. Breaks x k)) (escape_of t l h body y).first (escapes_of t l h body ys).first (breaks_first y) (some_first ys))

  some_shown : (names : List (List ℕ)) → IsTrue (escapes_of t l h body names).shown ↔ Some_of names (IsShownBehind t l)
  some_shown [] = (λ i. untrue i, λ s. untrue s.1)
  some_shown (y ∷ ys) =
      iff_map (or_iff (escape_of t l h body y).shown (escapes_of t l h body ys).shown (shown_is y) (some_shown ys)) (to_more (IsShownBehind t l) y ys) (from_more (IsShownBehind t l) y ys)

  -- a variable of the DO or of a DO in it
  index_is : (x : List ℕ) → IsTrue (is_among x (loop_variables (Do h body))) → IsIndexIn t l x
  index_is x e = record { loop = record { head = h; body = body; is = is }; among = e }

  is_index : (x : List ℕ) → IsIndexIn t l x → IsTrue (is_among x (loop_variables (Do h body)))
  is_index x s =
      subst (λ (b : StmtTrees). IsTrue (is_among x (loop_variables (Do h b)))) (same_body t l s.loop.head h s.loop.body body s.loop.is is)
      (subst (λ (g : Head). IsTrue (is_among x (loop_variables (Do g s.loop.body)))) (same_head t l s.loop.head h s.loop.body body s.loop.is is) s.among)

  broken_first : (a : Option ℕ) → IsFirst (λ k. Some_of (loop_variables (Do h body)) (λ x. Breaks x k)) a → IsFirst (IsBrokenBy t l) a
  broken_first a =
      first_map (λ k. Some_of (loop_variables (Do h body)) (λ x. Breaks x k)) (IsBrokenBy t l) a
      (λ k s. record { scalar = s.0; index = index_is s.0 s.1; read = s.2 }) (λ k s. (s.scalar, is_index s.scalar s.index, s.read))

  contained : IsFirst (IsBrokenBy t l) None → (Some_of (loop_variables (Do h body)) (IsShownBehind t l) → ⊥) → IsContained t l
  contained f g x i = (λ n r. f n record { scalar = x; index = i; read = inl r }, not_live)
    where
      not_live : IsLiveAfter t l x → ⊥
      not_live (inl s) = f s.0 record { scalar = x; index = i; read = inr s.1 }
      not_live (inr s) = g (x, is_index x i, s)

  by_shown : (shown : Bool) → IsTrue shown ↔ Some_of (loop_variables (Do h body)) (IsShownBehind t l) → IsFirst (IsBrokenBy t l) None → IsEscape t l (reader_else shown)
  by_shown true k f = let s = k.0 refl in (f, record { scalar = s.0; index = index_is s.0 s.1; shown = s.2 })
  by_shown false k f = contained f (λ s. untrue (k.1 s))

  by_first : (a : Option ℕ) (shown : Bool) → IsTrue shown ↔ Some_of (loop_variables (Do h body)) (IsShownBehind t l) → IsFirst (IsBrokenBy t l) a → IsEscape t l (reader_by a shown)
  by_first (Some n) shown k f = f
  by_first None shown k f = by_shown shown k f

  -- the answer
  pub escape_is : IsEscape t l (escaping (escapes_of t l h body (loop_variables (Do h body))))
  escape_is =
      by_first (escapes_of t l h body (loop_variables (Do h body))).first (escapes_of t l h body (loop_variables (Do h body))).shown (some_shown (loop_variables (Do h body)))
      (broken_first (escapes_of t l h body (loop_variables (Do h body))).first (some_first (loop_variables (Do h body))))

pub escape_nowhere : (t : ProgramTree) (l : ℕ) → ((h : Head) (body : StmtTrees) → IsLoop t l h body → ⊥) → IsEscape t l None
escape_nowhere t l none = λ x i. absurd (none i.loop.head i.loop.body i.loop.is)

pub escapes_next : (t : ProgramTree) (l : ℕ) (h : Head) (body : StmtTrees) (rest xs ys : List (List ℕ)) (before item after whole : Escape) → either_escape before (escapes_of t l h body rest) ≡ whole → rest ≡ xs ++ ys → item ≡ escapes_of t l h body xs → after ≡ either_escape before item
    → either_escape after (escapes_of t l h body ys) ≡ whole
escapes_next t l h body rest xs ys before item after whole inv r i e =
    let a = escapes_of t l h body xs in
    let c = escapes_of t l h body ys in
    let q : either_escape (either_escape before a) c ≡ either_escape before (either_escape a c) = λ j. record { first = least-assoc before.first a.first c.first j; shown = or-assoc before.shown a.shown c.shown j } in
    ap (λ (z : Escape). either_escape z c) (e ∙ ap (either_escape before) i) ∙ q
    ∙ ap (either_escape before) (sym (ap (escapes_of t l h body) r ∙ escapes-append t l h body xs ys)) ∙ inv
