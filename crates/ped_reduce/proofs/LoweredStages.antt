-- Lowering goes from stage to stage: what comes of a program, up to a statement, has its statements but for the DO loops that are lowered, and declares arrays behind its declarations.
use Rattle.std.proofs.Common.{◌≡◌, ◌⊎◌, ℕ, zero, suc, ◌+◌, ◌-◌, ◌≤◌, ◌<◌, ◌==◌, List, [], ◌∷◌, ◌++◌, map, filter, cond, Bool, true, false, not, ◌||◌, Option, Some, None, inl, inr, refl, sym, ap, subst, ◌∙◌, arith, append-nil, append_assoc, eqb-true}
use Rattle.std.specs.Prelude.{codes, option_map}
use Rattle.std.specs.Fmt.{decimal}
use Rattle.std.specs.Int.{int_min, int_max}
use Rattle.std.specs.List.{list_any, range_with_len, flat_map}
use Rattle.std.proofs.lemmas.Bool.{both_ways}
use Rattle.std.proofs.lemmas.List.Folds.{list_any-append}
use Rattle.std.proofs.lemmas.List.{map-append}
use Rattle.ped_base.specs.Lists.{is_same_text, is_among}
use Rattle.ped_base.proofs.NameEquality.{same_is}
use Rattle.ped_tree.specs.Tree.{Head, StmtTrees, Do, DeclaratorTree, DeclTree, Integer, ProgramTree}
use Rattle.ped_tree.specs.Nests.{Loop}
use Rattle.ped_tree.specs.NamesIn.{stmts_names}
use Rattle.ped_tree.specs.Numbering.{statements_count, statement_with}
use Rattle.ped_rules.specs.ped_symbolic.specs.Arithmetic.{literal}
use Rattle.ped_rules.specs.ped_symbols.specs.Sites.{decl_sites, stmts_sites}
use Rattle.ped_rules.specs.ped_symbols.specs.Kinds.{names_of}
use Rattle.ped_rules.specs.ped_symbols.proofs.RightUseLaws.Whole.{names_occur}
use Rattle.ped_rules.specs.ped_flow.proofs.Truths.{untrue, or_split, or_none, not_true}
use Rattle.ped_rules.specs.ped_flow.specs.PlainBounds.{all_loops_round, nest_round}
use Rattle.ped_rules.specs.ped_flow.specs.Questions.{LoopOf}
use Rattle.ped_rules.specs.ped_steps.specs.Replacing.{alone, all_replaced}
use Rattle.ped_rules.specs.ped_steps.specs.Runs.Gaps.{Gap, filled, number_at}
use Rattle.ped_rules.specs.ped_steps.proofs.RunLaws.NamesAtSites.{stmts_at}
use Rattle.ped_rules.specs.ped_steps.proofs.RunLaws.NamesKept as kept
use Rattle.ped_rules.specs.ped_steps.proofs.RunLaws.ReplacedTrees.{HasGap, program_gap}
use Rattle.ped_rules.specs.ped_laws.specs.Acts.Orders.{IsIn}
use Rattle.ped_rules.specs.Fresh.{occurs, most_numbered, program_name}
use Rattle.ped_rules.specs.OnlyLoops.{on_loop}
use Rattle.ped_rules.specs.Spans.{Span}
use Rattle.ped_rules.specs.ScalarArrays.{declaration}
use Rattle.ped_reduce.proofs.LoopsRoundGaps.{gap_loops, gap_nest}
use Rattle.ped_reduce.specs.Lists.{list_of}
use Rattle.ped_reduce.specs.Lowering.{Partials, fresh_arrays, partials_of, declarations, lowered_loop, Lowered, not_lowered, lowered_at}
use Rattle.ped_reduce.specs.Reducing.{is_live, IsLive, LowersOne, Lowers}
use Rattle.ped_reduce.proofs.LoweredPrograms.{IsMadeBy, made_by, made_count}
use Rattle.ped_reduce.proofs.LoweredNames.{names_stay}
use Rattle.ped_reduce.proofs.Resembling.{arrays_of, scalars_of, IsNew, IsSummable, is_lowered, Becomes, AllBecome, GapBecomes, all_same, IsLocated, located, all_become, replaced_filled}

-- the arrays of the scalars are among the names that are left
nothing : {A : Type 0} (ps : List Partials) → ◌≡◌ {A = Option (List Partials)} None (Some ps) → A
nothing ps e = absurd cc

same_partials : (ps qs : List Partials) → Some ps ≡ Some qs → ps ≡ qs
same_partials ps qs e = cc

abbrev with_first : List ℕ → List ℕ → List ℕ → List ℕ → List Partials → List Partials
with_first x a b c ps = (record { scalar = x; high = a; low = b; flag = c }) ∷ ps

or_kept : (a b c : Bool) → (b ≡ true → c ≡ true) → (a || b) ≡ true → (a || c) ≡ true
or_kept true b c h e = refl
or_kept false b c h e = h e

module _ (y : List ℕ) where
  abbrev Chosen : List (List ℕ) → List (List ℕ) → List Partials → Type 0
  Chosen xs fresh ps = (scalars_of ps ≡ xs) × (is_among y (arrays_of ps) ≡ true → is_among y fresh ≡ true)

  chosen_by : (x a b c : List ℕ) (xs fresh : List (List ℕ)) (ps : List Partials) (o : Option (List Partials)) → ((qs : List Partials) → o ≡ Some qs → Chosen xs fresh qs) → option_map (with_first x a b c) o ≡ Some ps → Chosen (x ∷ xs) (a ∷ b ∷ c ∷ fresh) ps
  chosen_by x a b c xs fresh ps None more e = nothing ps e
  chosen_by x a b c xs fresh ps (Some qs) more e =
      let m = more qs refl in
      subst (Chosen (x ∷ xs) (a ∷ b ∷ c ∷ fresh)) (same_partials (with_first x a b c qs) ps e) (
        ap (λ (z : List (List ℕ)). x ∷ z) m.0,
        or_kept (is_same_text y a) _ _ (or_kept (is_same_text y b) _ _ (or_kept (is_same_text y c) (is_among y (arrays_of qs)) (is_among y fresh) m.1)),
      )

  pub chosen : (xs fresh : List (List ℕ)) (ps : List Partials) → partials_of xs fresh ≡ Some ps → Chosen xs fresh ps
  chosen [] fresh ps e = subst (Chosen [] fresh) (same_partials [] ps e) (refl, λ h. untrue h)
  chosen (x ∷ xs) [] ps e = nothing ps e
  chosen (x ∷ xs) (a ∷ []) ps e = nothing ps e
  chosen (x ∷ xs) (a ∷ b ∷ []) ps e = nothing ps e
  chosen (x ∷ xs) (a ∷ b ∷ c ∷ fresh) ps e = chosen_by x a b c xs fresh ps (partials_of xs fresh) (λ qs q. chosen xs fresh qs q) e

  -- what is left doesn't occur, and begins with KX
  record IsLeft (t : ProgramTree) : Type 0 where
    unused : occurs t y ≡ false
    input : is_same_text y (codes "(IN)") ≡ false
    output : is_same_text y (codes "(OUT)") ≡ false

  left_in : (t : ProgramTree) (ks : List ℕ) → is_among y (filter (λ x. not (occurs t x)) (map (λ k. codes "KX" ++ decimal k) ks)) ≡ true → IsLeft t
  left_in t [] h = untrue h
  left_in t (k ∷ ks) h = by (not (occurs t (codes "KX" ++ decimal k))) refl h (left_in t ks)
    where
      here : not (occurs t (codes "KX" ++ decimal k)) ≡ true → y ≡ codes "KX" ++ decimal k → IsLeft t
      here e is = record {
        unused = ap (occurs t) is ∙ not_true (occurs t (codes "KX" ++ decimal k)) e;
        input = ap (λ (z : List ℕ). is_same_text z (codes "(IN)")) is;
        output = ap (λ (z : List ℕ). is_same_text z (codes "(OUT)")) is;
      }

      by : (b : Bool) → not (occurs t (codes "KX" ++ decimal k)) ≡ b
          → is_among y (cond b ((codes "KX" ++ decimal k) ∷ filter (λ x. not (occurs t x)) (map (λ n. codes "KX" ++ decimal n) ks)) (filter (λ x. not (occurs t x)) (map (λ n. codes "KX" ++ decimal n) ks))) ≡ true
          → (is_among y (filter (λ x. not (occurs t x)) (map (λ n. codes "KX" ++ decimal n) ks)) ≡ true → IsLeft t) → IsLeft t
      by true e g more = elim (or_split (is_same_text y (codes "KX" ++ decimal k)) (is_among y (filter (λ x. not (occurs t x)) (map (λ n. codes "KX" ++ decimal n) ks))) g) [
        | inl s ↦ here e (same_is y (codes "KX" ++ decimal k) s)
        | inr r ↦ more r
      ]
      by false e g more = more g

-- the declarations of arrays
abbrev row : Span → List ℕ → List DeclaratorTree
row v array = (record { name = array; bounds = (record { lower = literal (int_min v.first v.last); upper = literal (int_max v.first v.last) }) ∷ [] }) ∷ []

rows : (v : Span) (ps : List Partials) → (more : List (List DeclaratorTree)) × (declarations v ps ≡ map Integer more)
rows v [] = ([], refl)
rows v (p ∷ ps) = let r = rows v ps in (row v p.high ∷ row v p.low ∷ row v p.flag ∷ r.0, ap (λ (ds : List DeclTree). declaration p.high v ∷ declaration p.low v ∷ declaration p.flag v ∷ ds) r.1)

lowered_append : (live : List ℕ) (s k : ℕ) → is_lowered (live ++ s ∷ []) k ≡ is_lowered live k || (s == k || false)
lowered_append live s k = list_any-append (λ n. n == k) live (s ∷ [])

false_or : (b : Bool) → (b ≡ true → ⊥) → b ≡ false
false_or true h = absurd (h refl)
false_or false h = refl

module _ (t : ProgramTree) where
  -- a stage
  pub record IsStage (p : Lowered) : Type 0 where
    pub becomes : AllBecome t p.live t.body 1 p.tree.body
    pub more : List (List DeclaratorTree)
    pub decls : p.tree.decls ≡ t.decls ++ map Integer more
    pub count : statements_count p.tree.body ≡ statements_count t.body + p.more

  abbrev pub Before : ℕ → Lowered → Type 0
  Before l p = (k : ℕ) → is_lowered p.live k ≡ true → k < l

  -- nothing is lowered
  pub first_stage : IsStage (not_lowered t)
  first_stage = record { becomes = all_same t [] t.body 1; more = []; decls = sym (append-nil t.decls); count = omega arith }

  -- the DO with number s, in a program of which this is the stage, before and behind it is lowered
  pub record IsPlace (s : ℕ) (loop : LoopOf t s) (parallel : Bool) (p q : Lowered) : Type 0 where
    pub gap : Gap
    pub stands : t.body ≡ filled gap (alone (Do loop.head loop.body))
    pub at : number_at gap 1 ≡ s
    pub other : Gap
    pub alike : GapBecomes t p.live gap 1 other
    pub number : number_at other 1 ≡ s + p.more
    pub old : p.tree.body ≡ filled other (alone (Do loop.head loop.body))
    pub partials : List Partials
    pub new : q.tree.body ≡ filled other (lowered_loop parallel partials loop.head loop.body)
    pub summable : IsSummable t s partials loop.head loop.body
    pub span : Span
    pub decls : q.tree.decls ≡ p.tree.decls ++ declarations span partials
    pub live : q.live ≡ p.live ++ s ∷ []
    pub arrays : partials_of (list_of loop.body) (fresh_arrays p.tree) ≡ Some partials

  module _ (s : ℕ) (p q r : Lowered) (stage : IsStage p) (before : Before s p) (live : IsLive t s p r) (parallel : Bool) (made : IsMadeBy parallel p s (list_of live.loop.body) q) where
    abbrev h : Head
    h = live.loop.head

    abbrev body : StmtTrees
    body = live.loop.body

    has : HasGap (λ u. alone u) s (Do h body) 1 t.body (all_replaced (λ u. alone u) s t.body 1)
    has = program_gap (λ u. alone u) s (Do h body) t live.loop.is

    none_round : (l : Loop) → IsIn l (gap_loops has.gap 1) → is_lowered p.live l.number ≡ false
    none_round l i = each (nest_round t s) live.outside (subst (IsIn l) (sym (ap (λ (ts : StmtTrees). all_loops_round s ts 1) has.old_is ∙ gap_nest s (alone (Do h body)) (omega arith) has.gap 1 has.number)) i)
      where
        each : (ls : List Loop) → list_any (is_live p) ls ≡ false → IsIn l ls → is_lowered p.live l.number ≡ false
        each [] e j = absurd j
        each (m ∷ ms) e (inl same) = ap (λ (z : Loop). is_live p z) same ∙ (or_none (is_live p m) (list_any (is_live p) ms) e).0
        each (m ∷ ms) e (inr j) = each ms (or_none (is_live p m) (list_any (is_live p) ms) e).1 j

    found : IsLocated t p.live has.gap 1 (Do h body) p.tree.body
    found =
        located t p.live h body has.gap 1 p.tree.body (subst (λ (n : ℕ). (k : ℕ) → is_lowered p.live k ≡ true → k < n) (sym has.number) before) none_round
        (subst (λ (ts : StmtTrees). AllBecome t p.live ts 1 p.tree.body) has.old_is stage.becomes)

    number : number_at found.other 1 ≡ s + p.more
    number =
        let e = found.number 1 in
        let a = has.number in
        let b = ap statements_count has.old_is in
        let c = stage.count in
        omega (arith, e, a, b, c)

    new_arrays : (x : List ℕ) → is_among x (arrays_of made.partials) ≡ true → IsNew t x
    new_arrays x i =
        let among = (chosen x (list_of body) (fresh_arrays p.tree) made.partials made.arrays).1 i in
        let left = left_in x p.tree (range_with_len 1 most_numbered) among in
        let unused = (or_none (is_among x (names_of p.tree)) (is_among x (flat_map program_name p.tree.decls)) left.unused).0 in
        let sites = sym (names_occur p.tree x) ∙ unused in
        let parts = or_none (kept.occurs x (flat_map decl_sites p.tree.decls)) (kept.occurs x (stmts_sites p.tree.body)) (sym (kept.occurs_append x (flat_map decl_sites p.tree.decls) (stmts_sites p.tree.body)) ∙ sites) in
        let absent : is_among x (stmts_names p.tree.body) ≡ false = ap (is_among x) (sym (stmts_at p.tree.body)) ∙ parts.1 in
        record {
          body = false_or (is_among x (stmts_names t.body)) (λ k. both_ways (is_among x (stmts_names p.tree.body)) absent (names_stay x t p.live t.body 1 p.tree.body stage.becomes k));
          input = left.input;
          output = left.output;
        }

    pub placed : IsPlace s live.loop parallel p q
    placed = record {
      gap = has.gap;
      stands = has.old_is;
      at = has.number;
      other = found.other;
      alike = found.alike;
      number = number;
      old = found.is;
      partials = made.partials;
      new =
          ap (λ (z : Lowered). z.tree.body) made.made
          ∙ ap (λ (ts : StmtTrees). all_replaced (on_loop (lowered_loop parallel made.partials)) (s + p.more) ts 1) found.is
          ∙ replaced_filled (on_loop (lowered_loop parallel made.partials)) (s + p.more) h body found.other 1 number;
      summable = record {
        is = live.loop.is;
        scalars = (chosen [] (list_of body) (fresh_arrays p.tree) made.partials made.arrays).0;
        free = live.free.0;
        fresh = new_arrays;
      };
      span = made.span;
      decls = ap (λ (z : Lowered). z.tree.decls) made.made;
      live = ap (λ (z : Lowered). z.live) made.made;
      arrays = made.arrays;
    }

  -- one more DO that is lowered as a PARALLEL DO
  module _ (s : ℕ) (p q : Lowered) (stage : IsStage p) (before : Before s p) (live : IsLive t s p q) where
    made_here : IsMadeBy true p s (list_of live.loop.body) q
    made_here = made_by true p s (list_of live.loop.body) q live.makes

    place : IsPlace s live.loop true p q
    place = placed s p q q stage before live true made_here

    more_live : (k : ℕ) → is_lowered p.live k ≡ true → is_lowered q.live k ≡ true
    more_live k i = ap (λ (ls : List ℕ). is_lowered ls k) place.live ∙ lowered_append p.live s k ∙ ap (λ (b : Bool). b || (s == k || false)) i

    own_live : is_lowered q.live s ≡ true
    own_live = ap (λ (ls : List ℕ). is_lowered ls s) place.live ∙ lowered_append p.live s s ∙ last (is_lowered p.live s) (s == s) (itself s)
      where
        itself : (n : ℕ) → (n == n) ≡ true
        itself n = grind (arith, eqb-true)

        last : (a b : Bool) → b ≡ true → (a || (b || false)) ≡ true
        last true b e = refl
        last false true e = refl
        last false false e = untrue e

    pub next_before : Before (s + 1) q
    next_before k i = by (or_split (is_lowered p.live k) (s == k || false) (sym (ap (λ (ls : List ℕ). is_lowered ls k) place.live ∙ lowered_append p.live s k) ∙ i))
      where
        by : (is_lowered p.live k ≡ true) ⊎ ((s == k || false) ≡ true) → k < s + 1
        by (inl j) = let less = before k j in omega (arith, less)
        by (inr j) = elim (or_split (s == k) false j) [ inl e ↦ (let same = eqb-true s k e in omega (arith, same)) | inr e ↦ untrue e ]

    pub next_live : IsStage q
    next_live =
        let own : Becomes t q.live (Do live.loop.head live.loop.body) s (lowered_loop true place.partials live.loop.head live.loop.body) = inr (place.partials, own_live, place.summable, refl) in
        let all = all_become t p.live q.live more_live (Do live.loop.head live.loop.body) (lowered_loop true place.partials live.loop.head live.loop.body) place.gap 1 place.other place.alike
        (subst (λ (n : ℕ). Becomes t q.live (Do live.loop.head live.loop.body) n (lowered_loop true place.partials live.loop.head live.loop.body)) (sym place.at) own) in
        let r = rows place.span place.partials in
        let old_count = stage.count in
        let new_count = made_count true p s (list_of live.loop.body) q made_here in
        let gained_more = ap (λ (z : Lowered). z.more) made_here.made in
        record {
          becomes = subst (λ (ts : StmtTrees). AllBecome t q.live ts 1 q.tree.body) (sym place.stands) (subst (λ (ts : StmtTrees). AllBecome t q.live (filled place.gap (alone (Do live.loop.head live.loop.body))) 1 ts) (sym place.new) all);
          more = stage.more ++ r.0;
          decls =
              place.decls ∙ (λ i. stage.decls i ++ r.1 i) ∙ append_assoc t.decls (map Integer stage.more) (map Integer r.0)
              ∙ ap (λ (ds : List DeclTree). t.decls ++ ds) (sym (map-append Integer stage.more r.0));
          count = omega (arith, old_count, new_count, gained_more);
        }

  next_stage : (s : ℕ) (p q : Lowered) → IsStage p → Before s p → LowersOne t s p q → IsStage q × Before (s + 1) q
  next_stage s p q stage before (inl live) = (next_live s p q stage before live, next_before s p q stage before live)
  next_stage s p q stage before (inr stays) = (subst IsStage (sym stays.1) stage, λ k i. (let less = before k (ap (λ (z : Lowered). is_lowered z.live k) (sym stays.1) ∙ i) in omega (arith, less)))

  pub stages : (count l : ℕ) (p q : Lowered) → IsStage p → Before l p → Lowers t (range_with_len l count) p q → IsStage q × Before (l + count) q
  stages zero l p q stage before lowers = (subst IsStage (sym lowers) stage, λ k i. (let less = before k (ap (λ (z : Lowered). is_lowered z.live k) (sym lowers) ∙ i) in omega (arith, less)))
  stages (suc count) l p q stage before (r, one, lowers) =
      let n = next_stage l p r stage before one in
      let rest = stages count (l + 1) r q n.0 n.1 lowers in
      (rest.0, λ k i. (let less = rest.1 k i in omega (arith, less)))

  none_first : Before 1 (not_lowered t)
  none_first k i = untrue i

  pub first_least : (s : ℕ) → LoopOf t s → 1 ≤ s
  first_least zero loop = let none : statement_with zero t ≡ None = refl in let wrong = sym none ∙ loop.is in absurd cc
  first_least (suc n) loop = omega arith

  -- where lowering has come to a live list, all DO loops that are lowered stand before it, and its DO becomes one that isn't parallel yet, or a PARALLEL DO
  pub lowered_place : (s : ℕ) (p q w : Lowered) (parallel : Bool) → Lowers t (range_with_len 1 (s - 1)) (not_lowered t) p → (live : IsLive t s p q) → lowered_at parallel p s (list_of live.loop.body) ≡ Some w → IsStage p × IsPlace s live.loop parallel p w
  lowered_place s p q w parallel lowers live makes =
      let n = stages (s - 1) 1 (not_lowered t) p first_stage none_first lowers in
      let some = first_least s live.loop in
      let before : Before s p = λ k i. (let less = n.1 k i in omega (arith, less, some)) in
      (n.0, placed s p w q n.0 before live parallel (made_by parallel p s (list_of live.loop.body) w makes))

-- what comes of a program up to a live list, whose DO is lowered but isn't parallel yet: the statements before it are the same or lowered, those round it and behind it the same
pub record IsResembling (t : ProgramTree) (s : ℕ) (loop : LoopOf t s) (u : ProgramTree) (k : ℕ) : Type 0 where
  pub live : List ℕ
  pub gap : Gap
  pub stands : t.body ≡ filled gap (alone (Do loop.head loop.body))
  pub at : number_at gap 1 ≡ s
  pub other : Gap
  pub alike : GapBecomes t live gap 1 other
  pub number : number_at other 1 ≡ k
  pub further : s ≤ k
  pub partials : List Partials
  pub new : u.body ≡ filled other (lowered_loop false partials loop.head loop.body)
  pub summable : IsSummable t s partials loop.head loop.body
  pub more : List (List DeclaratorTree)
  pub decls : u.decls ≡ t.decls ++ map Integer more

-- lowering gives it, from a program with the DO itself in that place, for the arrays that are left there
pub lowered_resembles : (t : ProgramTree) (s : ℕ) (p q w : Lowered) → Lowers t (range_with_len 1 (s - 1)) (not_lowered t) p → (live : IsLive t s p q) → lowered_at false p s (list_of live.loop.body) ≡ Some w
    → (m : IsResembling t s live.loop w.tree (s + p.more)) × (p.tree.body ≡ filled m.other (alone (Do live.loop.head live.loop.body))) × (partials_of (list_of live.loop.body) (fresh_arrays p.tree) ≡ Some m.partials)
lowered_resembles t s p q w lowers live makes =
    let both = lowered_place t s p q w false lowers live makes in
    let stage = both.0 in
    let place = both.1 in
    let r = rows place.span place.partials in (
      record {
        live = p.live;
        gap = place.gap;
        stands = place.stands;
        at = place.at;
        other = place.other;
        alike = place.alike;
        number = place.number;
        further = omega arith;
        partials = place.partials;
        new = place.new;
        summable = place.summable;
        more = stage.more ++ r.0;
        decls =
            place.decls ∙ (λ i. stage.decls i ++ r.1 i) ∙ append_assoc t.decls (map Integer stage.more) (map Integer r.0)
            ∙ ap (λ (ds : List DeclTree). t.decls ++ ds) (sym (map-append Integer stage.more r.0));
      },
      place.old,
      place.arrays,
    )
