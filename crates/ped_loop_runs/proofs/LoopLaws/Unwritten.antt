-- Where a DO carries no dependence, no reference in it writes its variable or that of a DO in it: such a write would depend on itself in the next iteration.
use Rattle.std.proofs.Common.{◌≡◌, ℕ, zero, suc, ◌+◌, ◌-◌, ◌==◌, List, [], ◌∷◌, ◌++◌, map, take, length, Bool, true, false, ◌&&◌, ◌||◌, Option, Some, None, if◌then◌else◌, refl, sym, ap, ◌∙◌, subst, inl, inr, arith, append_assoc, eqb-true}
use Rattle.std.specs.List.{list_all, AllByRecursion}
use Rattle.std.specs.Option.{option_or}
use Rattle.std.proofs.lemmas.Bool.{and_parts, both_ways}
use Rattle.std.proofs.lemmas.List.{length-map, length-append, length-take-le}
use Rattle.std.proofs.lemmas.List.Folds.{list_any-append}
use Rattle.ped_bodies.specs.ped_flow.specs.ped_base.specs.Lists.{has_some, is_same_text, is_among}
use Rattle.ped_bodies.specs.ped_flow.specs.ped_base.proofs.NameEquality.{same_itself, same_is}
use Rattle.ped_bodies.specs.ped_views.specs.declared.directions.Direction.{Direction}
use Rattle.ped_bodies.specs.ped_views.specs.declared.directions.Direction.TheVariants.{Before, Same}
use Rattle.ped_bodies.specs.ped_views.specs.Views.{SubscriptPair}
use Rattle.ped_bodies.specs.ped_views.specs.Excluded.{Excludes}
use Rattle.ped_bodies.specs.ped_flow.specs.ped_tree.specs.Tree.{ExprTree, Head, StmtTree, StmtTrees, Assign, If, Do, Print, Read, Stop, Comment, no_stmts, more_stmts, ProgramTree}
use Rattle.ped_bodies.specs.ped_flow.specs.ped_tree.specs.Nests.{Loop, indices_of, common_nest}
use Rattle.ped_bodies.specs.ped_flow.specs.ped_tree.specs.Numbering.{numbered, all_numbered, at_place, statement_count, statements_count}
use Rattle.ped_bodies.specs.ped_flow.specs.ped_tree.specs.Accesses.{own_accesses, constant_names}
use Rattle.ped_bodies.specs.ped_flow.specs.ped_tree.specs.Grammar.Fits.{Surroundings, moved, in_if, in_loop, loop_fits, stmt_fits, stmts_fit, decls_fit, begins_with_statement, at_body}
use Rattle.ped_bodies.specs.ped_flow.specs.ped_tree.specs.NamesIn.{loop_variables, all_loop_variables}
use Rattle.ped_bodies.specs.ped_affine.specs.Ranges.{Setting, Around, loop_range, inside, ranges_inside, nest_ranges}
use Rattle.ped_bodies.specs.ped_affine.specs.PairViews.{Site, positions_of, heads_of}
use Rattle.ped_bodies.specs.ped_flow.specs.PlainBounds.{nest_round}
use Rattle.ped_bodies.specs.ped_flow.specs.Questions.{LoopOf, IsIndexIn}
use Rattle.ped_bodies.specs.ped_flow.proofs.Truths.{untrue, or_split, or_none}
use Rattle.ped_bodies.specs.ped_refs.specs.References.{Reference, references, numbered_accesses, statement_references, statements_references, innermost_private, private_loop, outermost, is_pair, pairs}
use Rattle.ped_bodies.specs.ped_symbols.specs.Kinds.{kind_in}
use Rattle.ped_bodies.specs.ped_symbols.specs.NameRefusals.{IsValid}
use Rattle.ped_bodies.specs.ped_symbols.specs.RightUses.RightUses.{NameKinds, is_scalar, expr_is_right, cond_is_right, head_is_right, stmt_is_right, stmts_are_right}
use Rattle.ped_bodies.specs.ped_symbols.proofs.RightUseLaws.Whole.{right_program}
use Rattle.ped_bodies.specs.ped_graph.specs.Owners.{is_same_owner, level_by, private_level, is_same}
use Rattle.ped_bodies.specs.ped_graph.specs.Dependences.{carried, carriage_from, is_of, setting_in, site_of, view_of, AreEdges}
use Rattle.ped_bodies.specs.ped_edges.specs.Edges.{Edge}
use Rattle.ped_bodies.specs.ped_laws.specs.Acts.Orders.{IsIn}
use Rattle.ped_bodies.specs.ped_laws.proofs.ActLaws.Lists.{in_left, in_right}
use Rattle.ped_bodies.specs.ped_laws.proofs.ConflictLaws.CoveringDirections.{same_numbers}
use Rattle.ped_bodies.specs.ped_laws.proofs.ConflictLaws.CoveringEdges.{IsBetween, is_listed, edge_between}
use Rattle.ped_bodies.specs.ped_steps.specs.Tidy.{is_written_in}
use Rattle.ped_bodies.specs.ped_steps.proofs.RunLaws.ScalarNames.{scalar_named}
use Rattle.ped_bodies.specs.ped_steps.proofs.RunLaws.ReplacedTrees as trees
use Rattle.ped_loop_runs.specs.Writing.{all_write}
use Rattle.ped_loop_runs.proofs.TidyLaws.TidyReferences.{written_is}
use Rattle.ped_loop_runs.specs.Carried.{is_level, is_in_body, is_carried_by, NoneOfScalarsCarriedBy}
use Rattle.ped_loop_runs.proofs.LoopLaws.Nested.{loop_round}
use Rattle.ped_loop_runs.proofs.LoopLaws.UnprivateIndices.{indices_unprivate}
use Rattle.ped_loop_runs.proofs.LoopLaws.FreeWrites.{more_free, all_free_write}

-- the variables of DO loops are scalars
module _ (k : NameKinds) (w : List ℕ) where
  variable_scalar : (h : Head) → head_is_right k h ≡ true → is_scalar k h.variable ≡ true
  variable_scalar h r =
      let a = and_parts _ (list_all (is_scalar k) h.private) r in
      let b = and_parts _ (expr_is_right k h.step) a.0 in
      let c = and_parts _ (expr_is_right k h.last) b.0 in
      (and_parts (is_scalar k h.variable) (expr_is_right k h.first) c.0).0

  mutual
    index_scalar : (s : StmtTree) → stmt_is_right k s ≡ true → is_among w (loop_variables s) ≡ true → is_scalar k w ≡ true
    index_scalar (Assign left right) r i = untrue i
    index_scalar (If c a b) r i =
        let second = and_parts (cond_is_right k c && stmts_are_right k a) (stmts_are_right k b) r in
        elim (or_split (is_among w (all_loop_variables a)) (is_among w (all_loop_variables b)) (sym (list_any-append (is_same_text w) (all_loop_variables a) (all_loop_variables b)) ∙ i)) [
          | inl e ↦ all_index_scalar a (and_parts (cond_is_right k c) (stmts_are_right k a) second.0).1 e
          | inr e ↦ all_index_scalar b second.1 e
        ]
    index_scalar (Do h body) r i =
        let both = and_parts (head_is_right k h) (stmts_are_right k body) r in
        elim (or_split (is_same_text w h.variable) (is_among w (all_loop_variables body)) i) [
          | inl e ↦ ap (is_scalar k) (same_is w h.variable e) ∙ variable_scalar h both.0
          | inr e ↦ all_index_scalar body both.1 e
        ]
    index_scalar (Print items) r i = untrue i
    index_scalar (Read items) r i = untrue i
    index_scalar Stop r i = untrue i
    index_scalar (Comment text) r i = untrue i

    all_index_scalar : (ss : StmtTrees) → stmts_are_right k ss ≡ true → is_among w (all_loop_variables ss) ≡ true → is_scalar k w ≡ true
    all_index_scalar no_stmts r i = untrue i
    all_index_scalar (more_stmts s rest) r i =
        let both = and_parts (stmt_is_right k s) (stmts_are_right k rest) r in
        elim (or_split (is_among w (loop_variables s)) (is_among w (all_loop_variables rest)) (sym (list_any-append (is_same_text w) (loop_variables s) (all_loop_variables rest)) ∙ i)) [
          | inl e ↦ index_scalar s both.0 e
          | inr e ↦ all_index_scalar rest both.1 e
        ]

module _ (t : ProgramTree) where
  abbrev cs : List (List ℕ)
  cs = constant_names t.decls

  abbrev kinds : NameKinds
  kinds = kind_in t

  abbrev NoOwner : Surroundings → List Loop → Type 0
  NoOwner p nest = (x : List ℕ) → is_among x p.private ≡ false → innermost_private x nest ≡ None

  -- the references in the body of a DO are among these; the DO fits and is right, and what is private to no DO round it has no owner there
  pub record IsReached (l : ℕ) (h : Head) (body : StmtTrees) (refs : List Reference) : Type 0 where
    pub nest : List Loop
    pub around : Surroundings
    pub fits : stmt_fits around (Do h body) ≡ true
    pub right : stmt_is_right kinds (Do h body) ≡ true
    pub free : NoOwner around nest
    pub listed : (r : Reference) → IsIn r (statements_references cs (nest ++ (record { number = l; head = h }) ∷ []) (l + 1) body) → IsIn r refs

  module _ (l : ℕ) (h : Head) (body : StmtTrees) where
    first_reached : (xs ys : List Reference) → IsReached l h body xs → IsReached l h body (xs ++ ys)
    first_reached xs ys r = record { nest = r.nest; around = r.around; fits = r.fits; right = r.right; free = r.free; listed = λ x i. in_left x xs ys (r.listed x i) }

    second_reached : (xs ys : List Reference) → IsReached l h body ys → IsReached l h body (xs ++ ys)
    second_reached xs ys r = record { nest = r.nest; around = r.around; fits = r.fits; right = r.right; free = r.free; listed = λ x i. in_right x xs ys (r.listed x i) }

    here : (p : Surroundings) (nest : List Loop) → NoOwner p nest → stmt_fits p (Do h body) ≡ true → stmt_is_right kinds (Do h body) ≡ true → IsReached l h body (statement_references cs nest l (Do h body))
    here p nest free f r = record {
      nest = nest;
      around = p;
      fits = f;
      right = r;
      free = free;
      listed = λ x i. in_right x (numbered_accesses l 1 nest (own_accesses cs (indices_of nest) (Do h body))) (statements_references cs (nest ++ (record { number = l; head = h }) ∷ []) (l + 1) body) i;
    }

    inner_owner : (p : Surroundings) (nest : List Loop) (n : ℕ) (g : Head) → NoOwner p nest → NoOwner (in_loop p g) (nest ++ (record { number = n; head = g }) ∷ [])
    inner_owner p nest n g free x e =
        let parts = or_none (is_among x g.private) (is_among x p.private) (sym (list_any-append (is_same_text x) g.private p.private) ∙ e) in
        more_free x nest (record { number = n; head = g }) (free x parts.1) parts.0

    mutual
      reached : (p : Surroundings) (nest : List Loop) → NoOwner p nest → (s : StmtTree) (n i : ℕ) → l ≡ n + i → at_place (numbered s) i ≡ Some (Do h body) → stmt_fits p s ≡ true → stmt_is_right kinds s ≡ true → IsReached l h body (statement_references cs nest n s)
      reached p nest free s n zero e q f r =
          let same : s ≡ Do h body = trees.itself s (Do h body) q in
          let number : l ≡ n = omega (arith, e) in
          subst (λ (x : StmtTree). IsReached l h body (statement_references cs nest n x)) (sym same)
          (subst (λ (m : ℕ). IsReached l h body (statement_references cs nest m (Do h body))) number (here p nest free (sym (ap (stmt_fits p) same) ∙ f) (sym (ap (stmt_is_right kinds) same) ∙ r)))
      reached p nest free (Assign left right) n (suc i) e q f r = trees.no_later (Assign left right) i (Do h body) q
      reached p nest free (If c a b) n (suc i) e q f r =
          let own = numbered_accesses n 1 nest (own_accesses cs (indices_of nest) (If c a b)) in
          let of_a = statements_references cs nest (n + 1) a in
          let of_b = statements_references cs nest (n + 1 + statements_count a) b in
          let second = and_parts _ (stmts_fit (in_if p (1 + statements_count a)) b) f in
          let first = and_parts _ (stmts_fit (in_if p 1) a) second.0 in
          let right = and_parts (cond_is_right kinds c && stmts_are_right kinds a) (stmts_are_right kinds b) r in
          elim (trees.in_if a b (If c a b) i (Do h body) q) [
            | inl g ↦ first_reached (own ++ of_a) of_b (second_reached own of_a (all_reached (in_if p 1) nest free a (n + 1) i (omega (arith, e)) g first.1 (and_parts (cond_is_right kinds c) (stmts_are_right kinds a) right.0).1))
            | inr g ↦ (let k = g.1 in second_reached (own ++ of_a) of_b (all_reached (in_if p (1 + statements_count a)) nest free b (n + 1 + statements_count a) g.0 (omega (arith, e, k)) g.2 second.1 right.1))
          ]
      reached p nest free (Do g inner) n (suc i) e q f r =
          let own = numbered_accesses n 1 nest (own_accesses cs (indices_of nest) (Do g inner)) in
          let more = nest ++ (record { number = n; head = g }) ∷ [] in
          second_reached own (statements_references cs more (n + 1) inner)
          (all_reached (in_loop p g) more (inner_owner p nest n g free) inner (n + 1) i (omega (arith, e)) (trees.next_place (Do g inner) (all_numbered inner) i (Do h body) q)
          (and_parts (loop_fits p g inner) (stmts_fit (in_loop p g) inner) f).1 (and_parts (head_is_right kinds g) (stmts_are_right kinds inner) r).1)
      reached p nest free (Print items) n (suc i) e q f r = trees.no_later (Print items) i (Do h body) q
      reached p nest free (Read items) n (suc i) e q f r = trees.no_later (Read items) i (Do h body) q
      reached p nest free Stop n (suc i) e q f r = trees.no_later Stop i (Do h body) q
      reached p nest free (Comment text) n (suc i) e q f r = absurd cc

      all_reached : (p : Surroundings) (nest : List Loop) → NoOwner p nest → (ss : StmtTrees) (n i : ℕ) → l ≡ n + i → at_place (all_numbered ss) i ≡ Some (Do h body) → stmts_fit p ss ≡ true → stmts_are_right kinds ss ≡ true → IsReached l h body (statements_references cs nest n ss)
      all_reached p nest free no_stmts n i e q f r = absurd cc
      all_reached p nest free (more_stmts s rest) n i e q f r =
          let fit = and_parts (stmt_fits p s) (stmts_fit (moved p (statement_count s)) rest) f in
          let right = and_parts (stmt_is_right kinds s) (stmts_are_right kinds rest) r in
          elim (trees.in_more s rest i (Do h body) q) [
            | inl g ↦ first_reached (statement_references cs nest n s) (statements_references cs nest (n + statement_count s) rest) (reached p nest free s n i e g fit.0 right.0)
            | inr g ↦ (let k = g.1 in second_reached (statement_references cs nest n s) (statements_references cs nest (n + statement_count s) rest) (all_reached (moved p (statement_count s)) nest free rest (n + statement_count s) g.0 (omega (arith, e, k)) g.2 fit.1 right.1))
          ]

  pub loop_reached : IsValid t → (l : ℕ) (loop : LoopOf t l) → IsReached l loop.head loop.body (references t)
  loop_reached valid l loop = by_number (l == 0) refl loop.is
    where
      by_number : (b : Bool) → (l == 0) ≡ b → (if b then None else at_place (all_numbered t.body) (l - 1)) ≡ Some (Do loop.head loop.body) → IsReached l loop.head loop.body (references t)
      by_number true e h = absurd cc
      by_number false e h =
          let more : l ≡ 1 + (l - 1) = grind (arith, eqb-true, e) in
          all_reached l loop.head loop.body (at_body t) [] (λ x k. refl) t.body 1 (l - 1) more h
          (and_parts (decls_fit 0 t.decls) (stmts_fit (at_body t) t.body) (and_parts _ (begins_with_statement t.body) valid.fits).0).1 (right_program t valid).statements

-- the variable of a DO or of a DO in it is no named constant
pub index_named : (t : ProgramTree) → IsValid t → (l : ℕ) (loop : LoopOf t l) (w : List ℕ) → is_among w (loop_variables (Do loop.head loop.body)) ≡ true → is_among w (constant_names t.decls) ≡ false
index_named t valid l loop w among = scalar_named t w valid (index_scalar (kind_in t) w (Do loop.head loop.body) (loop_reached t valid l loop).right among)

-- `=` for each of these loops
abbrev sames : List Loop → List Direction
sames nest = map (λ (l : Loop). Same) nest

carried_at : (front : List Loop) (rest : List Direction) (level : ℕ) → carriage_from level (sames front ++ Before ∷ rest) ≡ carried (length front + level)
carried_at [] rest level = ap carried (omega arith)
carried_at (f ∷ front) rest level = carried_at front rest (suc level) ∙ ap carried (omega arith)

nest_itself : (nest : List Loop) → common_nest nest nest ≡ nest
nest_itself [] = refl
nest_itself (l ∷ ls) = ap (λ (b : Bool). if b then l ∷ common_nest ls ls else []) (same_numbers l.number l.number refl) ∙ ap (λ (ms : List Loop). l ∷ ms) (nest_itself ls)

some_behind : (front : List Loop) (l : Loop) (more : List Loop) → has_some (front ++ l ∷ more) ≡ true
some_behind [] l more = refl
some_behind (f ∷ front) l more = refl

ranges_long : (s : Setting) (around : Around) (hs : List Head) → length (ranges_inside s around hs) ≡ length hs
ranges_long s around [] = refl
ranges_long s around (h ∷ hs) = ap suc (ranges_long s (inside around h (loop_range s around h)) hs)

-- what belongs to no DO has no level
no_level : (x : List ℕ) (nest : List Loop) → innermost_private x nest ≡ None → private_level x nest ≡ 0
no_level x [] h = refl
no_level x (l ∷ ls) h = go (innermost_private x ls) (is_among x l.head.private) refl refl h (λ e. no_level x ls e)
  where
    go : (o : Option Loop) (b : Bool) → innermost_private x ls ≡ o → is_among x l.head.private ≡ b → option_or o (if b then Some l else None) ≡ None → (innermost_private x ls ≡ None → private_level x ls ≡ 0) → private_level x (l ∷ ls) ≡ 0
    go (Some m) b e f g inner = absurd cc
    go None true e f g inner = absurd cc
    go None false e f g inner = let rest = inner e in λ i. level_by (rest i) (f i)

-- a scalar has no positions that could exclude anything
no_positions : (s : Setting) (a b : Site) (P : SubscriptPair → Type 0) (es gs : List ExprTree) → es ≡ [] → AllByRecursion P (positions_of s a b es gs)
no_positions s a b P [] gs h = tt
no_positions s a b P (e ∷ es) gs h = absurd cc

same_do : (a b : StmtTree) → Some a ≡ Some b → a ≡ b
same_do a b e = cc

module _ (t : ProgramTree) (edges : List Edge) (are : AreEdges t edges) where
  -- a write of a scalar that belongs to no DO depends on itself in each loop round it
  module _ (r : Reference) (listed : IsIn r (references t)) (writes : r.access.writes ≡ true) (bare : r.access.subscripts ≡ []) (free : private_loop r ≡ None) (front : List Loop) (l : Loop) (more : List Loop) (split : r.nest ≡ front ++ l ∷ more) where
    abbrev vector : List Direction
    vector = sames front ++ Before ∷ sames more

    pair : is_pair r r ≡ true
    pair =
        let same = same_itself r.access.name in
        let write = ap (λ (b : Bool). b || b) writes in
        let common = ap has_some (nest_itself r.nest ∙ split) ∙ some_behind front l more in
        (λ i. same i && write i && common i)

    nest_long : length r.nest ≡ length front + (1 + length more)
    nest_long = let long : length r.nest ≡ length front + suc (length more) = ap length split ∙ length-append front (l ∷ more) in omega (arith, long)

    loops_long : length (view_of t r r).loops ≡ length r.nest
    loops_long =
        let s : Setting = setting_in t (outermost r) in
        let common : length (common_nest r.nest r.nest) ≡ length r.nest = ap length (nest_itself r.nest) in
        let ranges : length (nest_ranges s (heads_of r.nest)) ≡ length r.nest = ranges_long s [] (heads_of r.nest) ∙ length-map r.nest (λ (m : Loop). m.head) in
        length-take-le (length (common_nest r.nest r.nest)) (nest_ranges s (heads_of r.nest)) (omega (arith, common, ranges)) ∙ common

    vector_long : length vector ≡ length (view_of t r r).loops
    vector_long =
        let parts : length vector ≡ length (sames front) + suc (length (sames more)) = length-append (sames front) (Before ∷ sames more) in
        let first : length (sames front) ≡ length front = length-map front (λ (m : Loop). Same) in
        let rest : length (sames more) ≡ length more = length-map more (λ (m : Loop). Same) in
        let loops = loops_long in
        let long = nest_long in
        omega (arith, parts, first, rest, loops, long)

    pub on_itself : IsBetween r r (Some (length front + 1)) vector edges
    on_itself =
        let loops = loops_long in
        let long = nest_long in
        edge_between t r r (pairs (references t)) edges vector (Some (length front + 1)) are (is_listed (references t) r r listed listed pair)
        (λ i. is_same_owner (free i) (free i))
        (ap (λ (n : ℕ). list_all is_same (take n vector)) (no_level r.access.name r.nest free))
        (no_positions (setting_in t (outermost r)) (site_of r) (site_of r) (λ (p : SubscriptPair). ¬ (Excludes (view_of t r r) p vector)) r.access.subscripts r.access.subscripts bare)
        vector_long
        (ap (is_of (Some (length front + 1))) (carried_at front (sames more) 1) ∙ same_numbers (length front + 1) (length front + 1) refl)
        (omega arith, omega (arith, loops, long))

  -- so, where the DO carries nothing of a scalar, its variables aren't written
  pub index_unwritten : IsValid t → (l : ℕ) (loop : LoopOf t l) → NoneOfScalarsCarriedBy t edges l loop.body → (w : List ℕ) → IsIndexIn t l w → is_written_in t l loop.body w ≡ false
  index_unwritten valid l loop none w index = go (is_written_in t l loop.body w) refl
    where
      body : IsReached t l loop.head loop.body (references t)
      body = loop_reached t valid l loop

      among : is_among w (loop_variables (Do loop.head loop.body)) ≡ true
      among =
          let same = same_do (Do index.loop.head index.loop.body) (Do loop.head loop.body) (sym index.loop.is ∙ loop.is) in
          sym (ap (λ (s : StmtTree). is_among w (loop_variables s)) same) ∙ index.among

      scalar : is_scalar (kind_in t) w ≡ true
      scalar = index_scalar (kind_in t) w (Do loop.head loop.body) body.right among

      itself : Loop
      itself = record { number = l; head = loop.head }

      no_owner : innermost_private w (body.nest ++ itself ∷ []) ≡ None
      no_owner =
          let parts = or_none (is_among w loop.head.private) (is_among w body.around.private)
          (sym (list_any-append (is_same_text w) loop.head.private body.around.private) ∙ indices_unprivate body.around loop.head loop.body w body.fits among) in
          more_free w body.nest itself (body.free w parts.1) parts.0

      carries : all_write (constant_names t.decls) w loop.body ≡ true → ⊥
      carries written =
          let f = all_free_write (constant_names t.decls) (kind_in t) w scalar (scalar_named t w valid scalar) (body.nest ++ itself ∷ []) (l + 1) loop.body no_owner (and_parts (head_is_right (kind_in t) loop.head) (stmts_are_right (kind_in t) loop.body) body.right).1 written in
          let listed = body.listed f.reference f.listed in
          let split : f.reference.nest ≡ body.nest ++ itself ∷ f.more = f.inside ∙ append_assoc body.nest (itself ∷ []) f.more in
          let free : private_loop f.reference ≡ None = ap (λ (x : List ℕ). innermost_private x f.reference.nest) f.name ∙ f.free in
          let b = on_itself f.reference listed f.writes f.bare free body.nest itself f.more split in
          let place = loop_round t f.reference listed body.nest itself f.more split loop in
          let number = ap (λ (z : ℕ × ℕ). z.0) b.from in
          let sink = ap (λ (z : ℕ × ℕ). z.0) b.to in
          let level : is_level (length (nest_round t l) + 1) b.edge.level ≡ true =
          ap (is_level (length (nest_round t l) + 1)) b.of_level ∙ same_numbers (length body.nest + 1) (length (nest_round t l) + 1) (ap (λ (ls : List Loop). length ls + 1) (sym place.1)) in
          let there = ap (is_in_body l loop.body) number ∙ place.0 in
          let at_sink = ap (is_in_body l loop.body) sink ∙ place.0 in
          both_ways (is_carried_by t l loop.body b.edge) (none f.reference listed f.bare b.edge b.listed b.from) (λ i. level i && (there i && at_sink i))

      go : (b : Bool) → is_written_in t l loop.body w ≡ b → is_written_in t l loop.body w ≡ false
      go false e = e
      go true e = absurd (carries (sym (written_is t l loop w) ∙ e))
