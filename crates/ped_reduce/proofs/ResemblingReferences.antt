-- A reference in the body of a lowered DO is one to its arrays, or comes from one in the body of the DO in the program, to none of the scalars; pairs of such references have as many common DO loops as those from which they come, and the same owners.
use Rattle.std.proofs.Common.{◌≡◌, ◌⊎◌, ℕ, ◌+◌, ◌-◌, ◌≤◌, ◌<◌, ◌==◌, List, [], ◌∷◌, ◌++◌, cond, Bool, true, false, not, ◌&&◌, Option, Some, None, is_none, is_some, if◌then◌else◌, refl, sym, ap, subst, ◌∙◌, inl, inr, arith, append-nil}
use Rattle.std.specs.Prelude.{nat_lt, option_map}
use Rattle.std.specs.List.{list_any, find}
use Rattle.std.proofs.lemmas.Bool.{and_parts, both_ways, lt-ltb, or_left, or_right}
use Rattle.ped_base.specs.Lists.{is_same_text, is_among}
use Rattle.ped_base.proofs.NameEquality.{same_itself, same_is}
use Rattle.ped_tree.specs.Tree.{Head, StmtTree, StmtTrees, Assign, If, Do, Print, Read, Stop, Comment, no_stmts, more_stmts, ProgramTree}
use Rattle.ped_tree.specs.Accesses.{constant_names}
use Rattle.ped_tree.specs.Nests.{Loop, indices_of}
use Rattle.ped_tree.proofs.NameLaws.Collected.{among_append}
use Rattle.ped_tree.specs.NamesIn.{loop_variables, all_loop_variables}
use Rattle.ped_rules.specs.ped_affine.specs.Assigned.{assigned_in, assigned_in_all}
use Rattle.ped_rules.specs.ped_steps.proofs.RunLaws.SparedVariables.{IsUnassigned, variables_unassigned}
use Rattle.ped_rules.specs.ped_loop_runs.proofs.TidyLaws.TidyReferencesGaps.{all_at}
use Rattle.ped_reduce.proofs.LoweredBehind.{without_loops}
use Rattle.ped_tree.specs.Numbering.{numbered, all_numbered, at_place, statement_with, statement_count, statements_count}
use Rattle.ped_refs.specs.References.{Reference, statements_references, references}
use Rattle.ped_rules.specs.ped_affine.specs.PairViews.{heads_of}
use Rattle.ped_rules.specs.ped_symbols.specs.Kinds.{kind_in}
use Rattle.ped_rules.specs.ped_symbols.specs.NameRefusals.{IsValid}
use Rattle.ped_rules.specs.ped_symbols.specs.RightUses.RightUses.{NameKinds, is_scalar, cond_is_right, stmt_is_right, stmts_are_right, head_is_right}
use Rattle.ped_rules.specs.ped_symbols.proofs.RightUseLaws.Whole.{right_program}
use Rattle.ped_rules.specs.ped_flow.proofs.Truths.{untrue, or_split}
use Rattle.ped_rules.specs.ped_flow.specs.PlainBounds.{all_loops_round, nest_round}
use Rattle.ped_rules.specs.ped_flow.specs.Questions.{LoopOf}
use Rattle.ped_rules.specs.ped_steps.specs.declared.rules.Rule.TheVariants.{NotScalar, NotSum}
use Rattle.ped_rules.specs.ped_steps.specs.Replacing.{followed, alone}
use Rattle.ped_rules.specs.ped_steps.specs.Runs.Gaps.{Gap, at_front, past, in_then, in_else, in_body, filled, number_at}
use Rattle.ped_rules.specs.ped_steps.proofs.RunLaws.FilledGaps.{number_from}
use Rattle.ped_rules.specs.ped_laws.specs.Acts.Orders.{IsIn}
use Rattle.ped_rules.specs.ped_laws.proofs.ActLaws.Lists.{in_parts}
use Rattle.ped_rules.specs.ped_laws.proofs.FlowRunLaws.Standing.{Stand, whole_stands, inner_stands, first_stands}
use Rattle.ped_rules.specs.Scalars as scalars
use Rattle.ped_reduce.proofs.LoopsRoundGaps.{gap_loops, gap_nest}
use Rattle.ped_reduce.proofs.LoopsRoundGaps.{gap_stands}
use Rattle.ped_reduce.specs.Lists.{list_of, listed_name, unless_named, without_list}
use Rattle.ped_reduce.specs.Sums.{Sum, sum_to}
use Rattle.ped_reduce.specs.Lowering.{Partials, and_then, zeros, all_summed, exits, bare, lowered_loop}
use Rattle.ped_reduce.specs.Reducing.{is_unsummable, sum_at, is_beside_sums}
use Rattle.ped_reduce.proofs.LoweredCounts.{without_numbered}
use Rattle.ped_reduce.proofs.Resembling.{scalars_of, IsSummable, GapBecomes, loops_pasts}
use Rattle.ped_reduce.proofs.ReferencesInGaps.{loop, nest_in_is, from_number, to_number, references_followed, inside, outwards}
use Rattle.ped_reduce.proofs.SummedReferences.{IsOfArrays, IsFrom, all_come, zeros_come}
use Rattle.ped_reduce.proofs.SummedNumbers.{moved, moved_tells}
use Rattle.ped_reduce.proofs.LoweredStages.{IsResembling, first_least}
use Rattle.ped_reduce.proofs.ResemblingPaths.{not_parallel, same_constants}

false_or : (b : Bool) → (b ≡ true → ⊥) → b ≡ false
false_or true h = absurd (h refl)
false_or false h = refl

-- the DO loops round a gap stay, but for their numbers
pub gap_heads : (t : ProgramTree) (live : List ℕ) (gap : Gap) (n m : ℕ) (other : Gap) → GapBecomes t live gap n other → heads_of (gap_loops other m) ≡ heads_of (gap_loops gap n)
gap_heads t live (at_front rest) n m other is = ap (λ (g : Gap). heads_of (gap_loops g m)) is
gap_heads t live (past z gap) n m other (x, g, p, q, is) =
    ap (λ (o : Gap). heads_of (gap_loops o m)) is ∙ ap heads_of (loops_pasts x g m) ∙ gap_heads t live gap (n + statement_count z) (m + statements_count x) g q
gap_heads t live (in_then c gap b rest) n m other (g, q, is) = ap (λ (o : Gap). heads_of (gap_loops o m)) is ∙ gap_heads t live gap (n + 1) (m + 1) g q
gap_heads t live (in_else c b gap rest) n m other (x, g, p, q, is) =
    ap (λ (o : Gap). heads_of (gap_loops o m)) is ∙ gap_heads t live gap (n + 1 + statements_count b) (m + 1 + statements_count x) g q
gap_heads t live (in_body d gap rest) n m other (g, q, is) =
    ap (λ (o : Gap). heads_of (gap_loops o m)) is ∙ ap (λ (hs : List Head). d ∷ hs) (gap_heads t live gap (n + 1) (m + 1) g q)

-- they have lesser numbers
pub loops_before : (gap : Gap) (n : ℕ) (l : Loop) → IsIn l (gap_loops gap n) → l.number < number_at gap n
loops_before (at_front rest) n l i = absurd i
loops_before (past z gap) n l i = loops_before gap (n + statement_count z) l i
loops_before (in_then c gap b rest) n l i = loops_before gap (n + 1) l i
loops_before (in_else c b gap rest) n l i = loops_before gap (n + 1 + statements_count b) l i
loops_before (in_body d gap rest) n l (inl e) = let same = ap (λ (z : Loop). z.number) e in let from = number_from gap (n + 1) in omega (arith, same, from)
loops_before (in_body d gap rest) n l (inr i) = loops_before gap (n + 1) l i

-- the variables of DO loops are assigned
module _ (w : List ℕ) where
  in_left_names : (xs ys : List (List ℕ)) → is_among w xs ≡ true → is_among w (xs ++ ys) ≡ true
  in_left_names xs ys e = among_append w xs ys ∙ or_left (is_among w xs) (is_among w ys) e

  in_right_names : (xs ys : List (List ℕ)) → is_among w ys ≡ true → is_among w (xs ++ ys) ≡ true
  in_right_names xs ys e = among_append w xs ys ∙ or_right (is_among w xs) (is_among w ys) e

  either_names : (xs ys us vs : List (List ℕ)) → (is_among w xs ≡ true → is_among w us ≡ true) → (is_among w ys ≡ true → is_among w vs ≡ true) → is_among w (xs ++ ys) ≡ true → is_among w (us ++ vs) ≡ true
  either_names xs ys us vs f g e = elim (or_split (is_among w xs) (is_among w ys) (sym (among_append w xs ys) ∙ e)) [ inl j ↦ in_left_names us vs (f j) | inr j ↦ in_right_names us vs (g j) ]

  mutual
    one_assigned : (s : StmtTree) → is_among w (loop_variables s) ≡ true → is_among w (assigned_in s) ≡ true
    one_assigned (Assign left right) e = untrue e
    one_assigned (If c a b) e = either_names (all_loop_variables a) (all_loop_variables b) (assigned_in_all a) (assigned_in_all b) (loops_assigned a) (loops_assigned b) e
    one_assigned (Do h body) e =
        either_names (h.variable ∷ []) (all_loop_variables body) (h.variable ∷ []) (h.private ++ assigned_in_all body) (λ j. j) (λ j. in_right_names h.private (assigned_in_all body) (loops_assigned body j)) e
    one_assigned (Print items) e = untrue e
    one_assigned (Read items) e = untrue e
    one_assigned Stop e = untrue e
    one_assigned (Comment text) e = untrue e

    pub loops_assigned : (ss : StmtTrees) → is_among w (all_loop_variables ss) ≡ true → is_among w (assigned_in_all ss) ≡ true
    loops_assigned no_stmts e = untrue e
    loops_assigned (more_stmts s rest) e = either_names (loop_variables s) (all_loop_variables rest) (assigned_in s) (assigned_in_all rest) (one_assigned s) (loops_assigned rest) e

-- a list has no references
unless_references : (cs : List (List ℕ)) (nest : List Loop) (o : Option (List ℕ)) (text : List ℕ) (rest : StmtTrees) (n : ℕ) → statements_references cs nest n (without_list rest) ≡ statements_references cs nest n rest
    → statements_references cs nest n (unless_named o (more_stmts (Comment text) rest) (without_list rest)) ≡ statements_references cs nest (n + 0) rest
unless_references cs nest None text rest n e = refl
unless_references cs nest (Some x) text rest n e = let same : n ≡ n + 0 = omega arith in e ∙ ap (λ (k : ℕ). statements_references cs nest k rest) same

pub without_references : (cs : List (List ℕ)) (nest : List Loop) (ss : StmtTrees) (n : ℕ) → statements_references cs nest n (without_list ss) ≡ statements_references cs nest n ss
without_references cs nest no_stmts n = refl
without_references cs nest (more_stmts (Comment text) rest) n = unless_references cs nest (listed_name text) text rest n (without_references cs nest rest n)
without_references cs nest (more_stmts (Assign left right) rest) n = refl
without_references cs nest (more_stmts (If c a b) rest) n = refl
without_references cs nest (more_stmts (Do h body) rest) n = refl
without_references cs nest (more_stmts (Print items) rest) n = refl
without_references cs nest (more_stmts (Read items) rest) n = refl
without_references cs nest (more_stmts Stop rest) n = refl

unless_right : (k : NameKinds) (o : Option (List ℕ)) (text : List ℕ) (rest : StmtTrees) → stmts_are_right k rest ≡ true → stmts_are_right k (without_list rest) ≡ true → stmts_are_right k (unless_named o (more_stmts (Comment text) rest) (without_list rest)) ≡ true
unless_right k None text rest h g = h
unless_right k (Some x) text rest h g = g

without_right : (k : NameKinds) (ss : StmtTrees) → stmts_are_right k ss ≡ true → stmts_are_right k (without_list ss) ≡ true
without_right k no_stmts h = refl
without_right k (more_stmts (Comment text) rest) h = unless_right k (listed_name text) text rest h (without_right k rest h)
without_right k (more_stmts (Assign left right) rest) h = h
without_right k (more_stmts (If c a b) rest) h = h
without_right k (more_stmts (Do g body) rest) h = h
without_right k (more_stmts (Print items) rest) h = h
without_right k (more_stmts (Read items) rest) h = h
without_right k (more_stmts Stop rest) h = h

-- statements in a gap of right ones are right
module _ (k : NameKinds) where
  right_first : (ts us : StmtTrees) → stmts_are_right k (followed ts us) ≡ true → stmts_are_right k ts ≡ true
  right_first no_stmts us h = refl
  right_first (more_stmts z rest) us h = let both = and_parts (stmt_is_right k z) (stmts_are_right k (followed rest us)) h in λ i. both.0 i && right_first rest us both.1 i

  right_filled : (gap : Gap) (old : StmtTrees) → stmts_are_right k (filled gap old) ≡ true → stmts_are_right k old ≡ true
  right_filled (at_front rest) old h = right_first old rest h
  right_filled (past z gap) old h = right_filled gap old (and_parts (stmt_is_right k z) (stmts_are_right k (filled gap old)) h).1
  right_filled (in_then c gap b rest) old h =
      let whole = (and_parts (stmt_is_right k (If c (filled gap old) b)) (stmts_are_right k rest) h).0 in
      right_filled gap old (and_parts (cond_is_right k c) (stmts_are_right k (filled gap old)) (and_parts (cond_is_right k c && stmts_are_right k (filled gap old)) (stmts_are_right k b) whole).0).1
  right_filled (in_else c a gap rest) old h =
      let whole = (and_parts (stmt_is_right k (If c a (filled gap old))) (stmts_are_right k rest) h).0 in
      right_filled gap old (and_parts (cond_is_right k c && stmts_are_right k a) (stmts_are_right k (filled gap old)) whole).1
  right_filled (in_body d gap rest) old h =
      let whole = (and_parts (stmt_is_right k (Do d (filled gap old))) (stmts_are_right k rest) h).0 in
      right_filled gap old (and_parts (head_is_right k d) (stmts_are_right k (filled gap old)) whole).1

-- what is found passes the test
finds : (p : Reference → Bool) (r : Reference) (refs : List Reference) → IsIn r refs → p r ≡ true → (n : ℕ) × (option_map (λ (x : Reference). x.statement) (find p refs) ≡ Some n)
finds p r [] i h = absurd i
finds p r (x ∷ xs) (inl e) h = (x.statement, ap (λ (b : Bool). option_map (λ (y : Reference). y.statement) (cond b (Some x) (find p xs))) (ap p (sym e) ∙ h))
finds p r (x ∷ xs) (inr i) h = by (p x) (finds p r xs i h)
  where
    by : (b : Bool) → (n : ℕ) × (option_map (λ (y : Reference). y.statement) (find p xs) ≡ Some n) → (n : ℕ) × (option_map (λ (y : Reference). y.statement) (cond b (Some x) (find p xs)) ≡ Some n)
    by true more = (x.statement, refl)
    by false more = more

-- what rules 13 and 19 tell of a DO in a program
module _ (t : ProgramTree) (n : ℕ) (ps : List Partials) (h : Head) (body : StmtTrees) (m : IsSummable t n ps h body) where
  pub scalar_names : (x : List ℕ) → is_among x (scalars_of ps) ≡ true → is_scalar (kind_in t) x ≡ true
  scalar_names x among = by (scalars.is_scalar t x) refl
    where
      by : (b : Bool) → scalars.is_scalar t x ≡ b → b ≡ true
      by true e = refl
      by false e = absurd (m.free NotScalar n (inr (inr (inr (inr (inl (refl, (record { head = h; body = body; is = m.is }, some (list_of body) (ap (is_among x) (sym m.scalars) ∙ among), refl))))))))
        where
          unsummable : is_unsummable t n body x ≡ true
          unsummable = or_left _ _ (or_left (not (scalars.is_scalar t x)) _ (ap not e))

          some : (names : List (List ℕ)) → is_among x names ≡ true → list_any (is_unsummable t n body) names ≡ true
          some [] g = untrue g
          some (y ∷ ys) g = elim (or_split (is_same_text x y) (is_among x ys) g) [
            | inl q ↦ or_left (is_unsummable t n body y) _ (ap (is_unsummable t n body) (sym (same_is x y q)) ∙ unsummable)
            | inr q ↦ or_right (is_unsummable t n body y) _ (some ys q)
          ]

  pub in_sum : (r : Reference) → IsIn r (references t) → n < r.statement → r.statement ≤ n + statements_count body → is_among r.access.name (scalars_of ps) ≡ true → is_some (sum_at t r.access.name r.statement) ≡ true
  in_sum r i from to among = by (sum_at t r.access.name r.statement) refl
    where
      by : (o : Option Sum) → sum_at t r.access.name r.statement ≡ o → is_some o ≡ true
      by (Some sum) e = refl
      by None e =
          let beside : is_beside_sums t n (statements_count body + 1) (list_of body) r ≡ true =
          (λ i. ((lt-ltb n r.statement from i && nat_lt r.statement (n + (statements_count body + 1))) && is_among r.access.name (list_of body)) && is_none (sum_at t r.access.name r.statement))
          ∙ (λ i. (lt-ltb r.statement (n + (statements_count body + 1)) (omega (arith, to)) i && is_among r.access.name (list_of body)) && is_none (sum_at t r.access.name r.statement))
          ∙ (λ i. (ap (is_among r.access.name) (sym m.scalars) ∙ among) i && is_none (sum_at t r.access.name r.statement)) ∙ ap is_none e in
          let found = finds (is_beside_sums t n (statements_count body + 1) (list_of body)) r (references t) i beside in
          absurd (m.free NotSum found.0 (inr (inr (inr (inr (inr (inr (inr (inl (refl, (record { head = h; body = body; is = m.is }, found.1)))))))))))

module _ (t u : ProgramTree) (s k : ℕ) (loop_is : LoopOf t s) (m : IsResembling t s loop_is u k) (valid : IsValid t) where
  abbrev h : Head
  h = loop_is.head

  abbrev body : StmtTrees
  body = loop_is.body

  abbrev ps : List Partials
  ps = m.partials

  abbrev v : List ℕ
  v = h.variable

  abbrev cs : List (List ℕ)
  cs = constant_names t.decls

  abbrev new : StmtTrees
  new = followed (zeros v ps) (all_summed v ps (without_list body))

  abbrev pub new_head : Head
  new_head = record h { parallel = false }

  abbrev pub inside_body : StmtTrees
  inside_body = without_list body

  -- where the statements of the body begin, behind the zeros
  abbrev pub start : ℕ
  start = k + 1 + statements_count (zeros v ps)

  abbrev pub number_of : ℕ → ℕ
  number_of = moved v ps (without_list body) (s + 1) start

  abbrev pub base : List Loop
  base = nest_round t s ++ loop s h ∷ []

  abbrev pub new_base : List Loop
  new_base = nest_round u k ++ loop k new_head ∷ []

  pub starts : s + 1 ≤ start
  starts = let more = m.further in omega (arith, more)

  pub old_round : nest_round t s ≡ gap_loops m.gap 1
  old_round = ap (λ (ts : StmtTrees). all_loops_round s ts 1) m.stands ∙ gap_nest s (alone (Do h body)) (omega arith) m.gap 1 m.at

  pub new_round : nest_round u k ≡ gap_loops m.other 1
  new_round = ap (λ (ts : StmtTrees). all_loops_round k ts 1) m.new ∙ gap_nest k (lowered_loop false ps h body) (omega arith) m.other 1 m.number

  same_head : new_head ≡ h
  same_head = λ i. record h { parallel = sym (not_parallel t s ps h body m.summable) i }

  heads_append : (xs ys : List Loop) → heads_of (xs ++ ys) ≡ heads_of xs ++ heads_of ys
  heads_append [] ys = refl
  heads_append (x ∷ xs) ys = ap (λ (hs : List Head). x.head ∷ hs) (heads_append xs ys)

  pub same_bases : heads_of new_base ≡ heads_of base
  same_bases =
      heads_append (nest_round u k) (loop k new_head ∷ [])
      ∙ (λ i. (ap heads_of new_round ∙ gap_heads t m.live m.gap 1 1 m.other m.alike ∙ sym (ap heads_of old_round)) i ++ same_head i ∷ [])
      ∙ sym (heads_append (nest_round t s) (loop s h ∷ []))

  indexed : is_among v (indices_of base) ≡ true
  indexed = last (nest_round t s)
    where
      last : (ls : List Loop) → is_among v (indices_of (ls ++ loop s h ∷ [])) ≡ true
      last [] = or_left (is_same_text v v) false (same_itself v)
      last (l ∷ ls) = or_right (is_same_text v l.head.variable) (is_among v (indices_of (ls ++ loop s h ∷ []))) (last ls)

  -- no DO in the body has its variable
  clear : is_among v (all_loop_variables (without_list body)) ≡ false
  clear = ap (is_among v) (without_loops body) ∙ false_or (is_among v (all_loop_variables body)) (λ e. both_ways (is_among v (assigned_in_all body)) unassigned (loops_assigned v body e))
    where
      unassigned : is_among v (assigned_in_all body) ≡ false
      unassigned = (all_at (IsUnassigned t (kind_in t)) h body t.body 1 (s - 1) s (omega (arith, some)) there (variables_unassigned t valid)).1
        where
          some : 1 ≤ s
          some = first_least t s loop_is

          there : at_place (all_numbered t.body) (s - 1) ≡ Some (Do h body)
          there = place_of (s == 0) refl loop_is.is
            where
              place_of : (b : Bool) → (s == 0) ≡ b → (if b then None else at_place (all_numbered t.body) (s - 1)) ≡ Some (Do h body) → at_place (all_numbered t.body) (s - 1) ≡ Some (Do h body)
              place_of true e g = absurd cc
              place_of false e g = g

  -- the references of the old body are references of the program
  pub of_program : (r : Reference) → IsIn r (statements_references cs base (s + 1) body) → IsIn r (references t)
  of_program r i =
      subst (λ (ts : StmtTrees). IsIn r (statements_references cs [] 1 ts)) (sym m.stands)
      (outwards cs h body no_stmts m.gap [] 1 r
      (subst (λ (ls : List Loop). IsIn r (statements_references cs (ls ++ loop (number_at m.gap 1) h ∷ []) (number_at m.gap 1 + 1) body)) (sym (nest_in_is m.gap [] 1))
      (subst (λ (j : ℕ). IsIn r (statements_references cs (gap_loops m.gap 1 ++ loop j h ∷ []) (j + 1) body)) (sym m.at)
      (subst (λ (ls : List Loop). IsIn r (statements_references cs (ls ++ loop s h ∷ []) (s + 1) body)) old_round i))))

  pub stands_body : Stand t (s + 1) (all_numbered (without_list body))
  stands_body =
      subst (Stand t (s + 1)) (sym (without_numbered body))
      (inner_stands t (Do h body) (all_numbered body) s
      (first_stands t s (numbered (Do h body)) []
      (subst (λ (n : ℕ). Stand t n (all_numbered (alone (Do h body)))) m.at
      (gap_stands t m.gap (alone (Do h body)) 1 (subst (λ (ts : StmtTrees). Stand t 1 (all_numbered ts)) m.stands (whole_stands t))))))

  pub right_body : stmts_are_right (kind_in t) (without_list body) ≡ true
  right_body =
      let whole = right_filled (kind_in t) m.gap (alone (Do h body)) (ap (stmts_are_right (kind_in t)) (sym m.stands) ∙ (right_program t valid).statements) in
      let one = and_parts (stmt_is_right (kind_in t) (Do h body)) true whole in
      without_right (kind_in t) body (and_parts (head_is_right (kind_in t) h) (stmts_are_right (kind_in t) body) one.0).1

  abbrev pub Old : List Reference
  Old = statements_references cs base (s + 1) body

  abbrev pub From : Reference → Type 0
  From r = IsFrom number_of s base new_base ps Old r

  old_is : statements_references cs (base ++ []) (s + 1) (without_list body) ≡ Old
  old_is = ap (λ (ls : List Loop). statements_references cs ls (s + 1) (without_list body)) (append-nil base) ∙ without_references cs base body (s + 1)

  -- a reference of the new body
  pub body_comes : (r : Reference) → IsIn r (statements_references cs new_base (k + 1) new) → IsOfArrays new_base v ps r ⊎ From r
  body_comes r i = elim (in_parts r (statements_references cs new_base (k + 1) (zeros v ps)) (statements_references cs new_base start (all_summed v ps (without_list body))) (subst (IsIn r) (references_followed cs new_base (k + 1) (zeros v ps) (all_summed v ps (without_list body))) i)) [
    | inl j ↦ inl (zeros_come t (kind_in t) cs v ps number_of s base new_base same_bases indexed (scalar_names t s ps h body m.summable) Old ps (λ p w. w) (k + 1) r j)
    | inr j ↦ elim (all_come t (kind_in t) cs v ps number_of s base new_base same_bases indexed (scalar_names t s ps h body m.summable) [] ((λ l w. absurd w), refl) (without_list body) (s + 1) start (omega arith) clear stands_body right_body
        (moved_tells v ps (without_list body) (s + 1) start starts) sums r (subst (λ (ls : List Loop). IsIn r (statements_references cs ls start (all_summed v ps (without_list body)))) (sym (append-nil new_base)) j)) [
          | inl a ↦ inl a
          | inr c ↦ inr (record { source = c.source; listed = subst (IsIn c.source) old_is c.listed; access = c.access; inner = c.inner; deep = c.deep; old_nest = c.old_nest; new_nest = c.new_nest; unsummed = c.unsummed })
        ]
  ]
    where
      sums : (x : Reference) → IsIn x (statements_references cs (base ++ []) (s + 1) (without_list body)) → is_among x.access.name (scalars_of ps) ≡ true → is_some (and_then (statement_with x.statement t) (sum_to x.access.name)) ≡ true
      sums x w among =
          let old = subst (IsIn x) old_is w in
          let from = from_number cs base (s + 1) body x old in
          let to = to_number cs base (s + 1) body x old in
          in_sum t s ps h body m.summable x (of_program x old) (omega (arith, from)) (omega (arith, to)) among

  -- the reference by its number
  pub references_resemble : (r : Reference) → IsIn r (references u) → k < r.statement → r.statement ≤ k + statements_count new → IsOfArrays new_base v ps r ⊎ From r
  references_resemble r i from to =
      body_comes r
      (subst (λ (ls : List Loop). IsIn r (statements_references cs (ls ++ loop k new_head ∷ []) (k + 1) new)) (sym new_round)
      (subst (λ (j : ℕ). IsIn r (statements_references cs (gap_loops m.other 1 ++ loop j new_head ∷ []) (j + 1) new)) m.number
      (subst (λ (ls : List Loop). IsIn r (statements_references cs (ls ++ loop (number_at m.other 1) new_head ∷ []) (number_at m.other 1 + 1) new)) (nest_in_is m.other [] 1)
      (inside cs new_head new (alone (Do (bare h) (exits v ps))) m.other [] 1 r (subst (λ (j : ℕ). j < r.statement) (sym m.number) from) (subst (λ (j : ℕ). r.statement ≤ j + statements_count new) (sym m.number) to)
      (subst (λ (ts : StmtTrees). IsIn r (statements_references cs [] 1 ts)) m.new (subst (λ (ds : List (List ℕ)). IsIn r (statements_references ds [] 1 u.body)) (same_constants t u s k loop_is m) i))))))
