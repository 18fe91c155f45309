-- A program, and what comes of it when some of its DO loops are lowered, told statement by statement: the others stay.
use Rattle.std.proofs.Common.{◌≡◌, ◌⊎◌, ℕ, ◌+◌, ◌-◌, ◌≤◌, ◌<◌, ◌==◌, List, [], ◌∷◌, map, Bool, true, false, inl, inr, refl, sym, ap, subst, ◌∙◌, arith}
use Rattle.std.specs.List.{list_any}
use Rattle.std.specs.Prelude.{codes}
use Rattle.std.proofs.lemmas.Bool.{both_ways}
use Rattle.ped_base.specs.Lists.{is_same_text, is_among}
use Rattle.ped_tree.specs.Tree.{Head, StmtTree, StmtTrees, Assign, If, Do, Print, Read, Stop, Comment, no_stmts, more_stmts, ProgramTree}
use Rattle.ped_tree.specs.Nests.{Loop}
use Rattle.ped_tree.specs.NamesIn.{stmts_names}
use Rattle.ped_tree.specs.Numbering.{statement_count, statements_count}
use Rattle.ped_rules.specs.ped_flow.specs.Questions.{IsLoop}
use Rattle.ped_rules.specs.ped_steps.specs.Causes.{NoRule}
use Rattle.ped_rules.specs.ped_steps.specs.Replacing.{followed, alone, all_replaced}
use Rattle.ped_rules.specs.ped_steps.specs.Runs.Gaps.{Gap, at_front, past, in_then, in_else, in_body, filled, number_at}
use Rattle.ped_rules.specs.ped_steps.proofs.RunLaws.FilledGaps.{counted, number_from, number_room}
use Rattle.ped_rules.specs.ped_steps.proofs.RunLaws.ReplacedTrees as trees
use Rattle.ped_rules.specs.ped_laws.specs.Acts.Orders.{IsIn}
use Rattle.ped_reduce.proofs.LoopsRoundGaps.{gap_loops}
use Rattle.ped_reduce.specs.Lists.{list_of}
use Rattle.ped_reduce.specs.Lowering.{Partials, lowered_loop}
use Rattle.ped_reduce.specs.Reducing.{StandsAgainstSumming}

-- the names of the arrays
abbrev pub arrays_of : List Partials → List (List ℕ)
arrays_of [] = []
arrays_of (p ∷ ps) = p.high ∷ p.low ∷ p.flag ∷ arrays_of ps

-- the scalars whose sums they keep
abbrev pub scalars_of : List Partials → List (List ℕ)
scalars_of ps = map (λ p. p.scalar) ps

-- the name is new to a program: no statement of it has the name, and it is none of those of input and output
pub record IsNew (t : ProgramTree) (x : List ℕ) : Type 0 where
  pub body : is_among x (stmts_names t.body) ≡ false
  pub input : is_same_text x (codes "(IN)") ≡ false
  pub output : is_same_text x (codes "(OUT)") ≡ false

-- in a program this DO has sums in any order, and these are new arrays for the scalars of its list
pub record IsSummable (t : ProgramTree) (n : ℕ) (ps : List Partials) (h : Head) (body : StmtTrees) : Type 0 where
  pub is : IsLoop t n h body
  pub scalars : scalars_of ps ≡ list_of body
  pub free : NoRule (StandsAgainstSumming n (list_of body) t)
  pub fresh : (x : List ℕ) → is_among x (arrays_of ps) ≡ true → IsNew t x

-- the DO with this number is one of those that are lowered
abbrev pub is_lowered : List ℕ → ℕ → Bool
is_lowered live n = list_any (λ k. k == n) live

-- what a statement with number n of a program becomes, where these DO loops are lowered: such a DO a PARALLEL DO and the DO that adds up; any other statement stays, but for its parts
abbrev mutual
  pub Becomes : ProgramTree → List ℕ → StmtTree → ℕ → StmtTrees → Type 0
  Becomes t live (Assign left right) n ws = ws ≡ alone (Assign left right)
  Becomes t live (If c a b) n ws = (x : StmtTrees) × (y : StmtTrees) × AllBecome t live a (n + 1) x × AllBecome t live b (n + 1 + statements_count a) y × (ws ≡ alone (If c x y))
  Becomes t live (Do h body) n ws =
      ((x : StmtTrees) × AllBecome t live body (n + 1) x × (ws ≡ alone (Do h x)))
      ⊎ ((ps : List Partials) × (is_lowered live n ≡ true) × IsSummable t n ps h body × (ws ≡ lowered_loop true ps h body))
  Becomes t live (Print items) n ws = ws ≡ alone (Print items)
  Becomes t live (Read items) n ws = ws ≡ alone (Read items)
  Becomes t live Stop n ws = ws ≡ alone Stop
  Becomes t live (Comment text) n ws = ws ≡ alone (Comment text)

  -- the same of statements
  pub AllBecome : ProgramTree → List ℕ → StmtTrees → ℕ → StmtTrees → Type 0
  AllBecome t live no_stmts n ws = ws ≡ no_stmts
  AllBecome t live (more_stmts s rest) n ws = (x : StmtTrees) × (y : StmtTrees) × Becomes t live s n x × AllBecome t live rest (n + statement_count s) y × (ws ≡ followed x y)

-- a gap with statements before it
abbrev pub pasts : StmtTrees → Gap → Gap
pasts no_stmts gap = gap
pasts (more_stmts s rest) gap = past s (pasts rest gap)

-- what the statements round a gap become, where all DO loops that are lowered stand before it
abbrev pub GapBecomes : ProgramTree → List ℕ → Gap → ℕ → Gap → Type 0
GapBecomes t live (at_front rest) n other = other ≡ at_front rest
GapBecomes t live (past s gap) n other = (x : StmtTrees) × (g : Gap) × Becomes t live s n x × GapBecomes t live gap (n + statement_count s) g × (other ≡ pasts x g)
GapBecomes t live (in_then c gap b rest) n other = (g : Gap) × GapBecomes t live gap (n + 1) g × (other ≡ in_then c g b rest)
GapBecomes t live (in_else c a gap rest) n other = (x : StmtTrees) × (g : Gap) × AllBecome t live a (n + 1) x × GapBecomes t live gap (n + 1 + statements_count a) g × (other ≡ in_else c x g rest)
GapBecomes t live (in_body h gap rest) n other = (g : Gap) × GapBecomes t live gap (n + 1) g × (other ≡ in_body h g rest)

pub filled_pasts : (xs : StmtTrees) (gap : Gap) (mid : StmtTrees) → filled (pasts xs gap) mid ≡ followed xs (filled gap mid)
filled_pasts no_stmts gap mid = refl
filled_pasts (more_stmts s rest) gap mid = ap (more_stmts s) (filled_pasts rest gap mid)

pub number_pasts : (xs : StmtTrees) (gap : Gap) (m : ℕ) → number_at (pasts xs gap) m ≡ number_at gap (m + statements_count xs)
number_pasts no_stmts gap m = let e : m ≡ m + 0 = omega arith in ap (number_at gap) e
number_pasts (more_stmts s rest) gap m =
    let e : m + statement_count s + statements_count rest ≡ m + (statement_count s + statements_count rest) = omega arith in
    number_pasts rest gap (m + statement_count s) ∙ ap (number_at gap) e

pub loops_pasts : (xs : StmtTrees) (gap : Gap) (m : ℕ) → gap_loops (pasts xs gap) m ≡ gap_loops gap (m + statements_count xs)
loops_pasts no_stmts gap m = let e : m ≡ m + 0 = omega arith in ap (gap_loops gap) e
loops_pasts (more_stmts s rest) gap m =
    let e : m + statement_count s + statements_count rest ≡ m + (statement_count s + statements_count rest) = omega arith in
    loops_pasts rest gap (m + statement_count s) ∙ ap (gap_loops gap) e

module _ (t : ProgramTree) (live : List ℕ) where
  abbrev Before : ℕ → Type 0
  Before n = (k : ℕ) → is_lowered live k ≡ true → k < n

  later : (n m : ℕ) → n ≤ m → Before n → Before m
  later n m h before k i = let less = before k i in omega (arith, h, less)

  -- statements behind all DO loops that are lowered stay
  mutual
    pub stays : (s : StmtTree) (n : ℕ) (ws : StmtTrees) → Before n → Becomes t live s n ws → ws ≡ alone s
    stays (Assign left right) n ws before b = b
    stays (If c a b) n ws before (x, y, p, q, is) =
        let first = all_stay a (n + 1) x (later n (n + 1) (omega arith) before) p in
        let second = all_stay b (n + 1 + statements_count a) y (later n (n + 1 + statements_count a) (omega arith) before) q in
        is ∙ (λ i. alone (If c (first i) (second i)))
    stays (Do h body) n ws before (inl (x, p, is)) =
        let inner = all_stay body (n + 1) x (later n (n + 1) (omega arith) before) p in
        is ∙ (λ i. alone (Do h (inner i)))
    stays (Do h body) n ws before (inr (ps, there, m, is)) = let less = before n there in absurd (omega (arith, less))
    stays (Print items) n ws before b = b
    stays (Read items) n ws before b = b
    stays Stop n ws before b = b
    stays (Comment text) n ws before b = b

    pub all_stay : (ss : StmtTrees) (n : ℕ) (ws : StmtTrees) → Before n → AllBecome t live ss n ws → ws ≡ ss
    all_stay no_stmts n ws before b = b
    all_stay (more_stmts s rest) n ws before (x, y, p, q, is) =
        let first = stays s n x before p in
        let others = all_stay rest (n + statement_count s) y (later n (n + statement_count s) (omega arith) before) q in
        is ∙ (λ i. followed (first i) (others i))

  -- statements may stay
  mutual
    pub same : (s : StmtTree) (n : ℕ) → Becomes t live s n (alone s)
    same (Assign left right) n = refl
    same (If c a b) n = (a, b, all_same a (n + 1), all_same b (n + 1 + statements_count a), refl)
    same (Do h body) n = inl (body, all_same body (n + 1), refl)
    same (Print items) n = refl
    same (Read items) n = refl
    same Stop n = refl
    same (Comment text) n = refl

    pub all_same : (ss : StmtTrees) (n : ℕ) → AllBecome t live ss n ss
    all_same no_stmts n = refl
    all_same (more_stmts s rest) n = (alone s, rest, same s n, all_same rest (n + statement_count s), refl)

  -- where the DO stands that isn't lowered yet, behind all that are
  pub record IsLocated (gap : Gap) (n : ℕ) (s : StmtTree) (ws : StmtTrees) : Type 0 where
    pub other : Gap
    pub alike : GapBecomes t live gap n other
    pub is : ws ≡ filled other (alone s)
    pub number : (m : ℕ) → number_at other m + (n + statements_count (filled gap (alone s))) ≡ number_at gap n + (m + statements_count ws)

  module _ (h : Head) (body : StmtTrees) where
    abbrev it : StmtTrees
    it = alone (Do h body)

    -- none of the DO loops round a gap is lowered
    abbrev Outside : Gap → ℕ → Type 0
    Outside gap n = (l : Loop) → IsIn l (gap_loops gap n) → is_lowered live l.number ≡ false

    pub located : (gap : Gap) (n : ℕ) (ws : StmtTrees) → Before (number_at gap n) → Outside gap n → AllBecome t live (filled gap it) n ws → IsLocated gap n (Do h body) ws
    located (at_front rest) n ws before outside (x, y, p, q, is) =
        let first = stays (Do h body) n x before p in
        let others = all_stay rest (n + statement_count (Do h body)) y (later n (n + statement_count (Do h body)) (omega arith) before) q in
        let whole : ws ≡ filled (at_front rest) it = is ∙ (λ i. followed (first i) (others i)) in
        let count = ap statements_count whole in
        record { other = at_front rest; alike = refl; is = whole; number = λ m. omega (arith, count) }
    located (past z gap) n ws before outside (x, y, p, q, is) =
        let r = located gap (n + statement_count z) y before outside q in
        let count = ap statements_count is ∙ counted x y in
        record {
          other = pasts x r.other;
          alike = (x, r.other, p, r.alike, refl);
          is = is ∙ ap (followed x) r.is ∙ sym (filled_pasts x r.other it);
          number = λ m. (let at = number_pasts x r.other m in let inner = r.number (m + statements_count x) in omega (arith, at, inner, count));
        }
    located (in_then c gap b rest) n ws before outside (x, y, (u, v, p, o, of_x), q, is) =
        let a = filled gap it in
        let room = number_room gap it (n + 1) in
        let r = located gap (n + 1) u before outside p in
        let second = all_stay b (n + 1 + statements_count a) v (later (number_at gap (n + 1)) (n + 1 + statements_count a) (omega (arith, room)) before) o in
        let others = all_stay rest (n + statement_count (If c a b)) y (later (number_at gap (n + 1)) (n + statement_count (If c a b)) (omega (arith, room)) before) q in
        let whole : ws ≡ filled (in_then c r.other b rest) it = is ∙ (λ i. followed (of_x i) (others i)) ∙ (λ i. more_stmts (If c (r.is i) (second i)) rest) in
        let count = ap statements_count whole in
        let part = ap statements_count r.is in
        record { other = in_then c r.other b rest; alike = (r.other, r.alike, refl); is = whole; number = λ m. (let inner = r.number (m + 1) in omega (arith, inner, count, part)) }
    located (in_else c b gap rest) n ws before outside (x, y, (u, v, p, o, of_x), q, is) =
        let a = filled gap it in
        let room = number_room gap it (n + 1 + statements_count b) in
        let r = located gap (n + 1 + statements_count b) v before outside o in
        let others = all_stay rest (n + statement_count (If c b a)) y (later (number_at gap (n + 1 + statements_count b)) (n + statement_count (If c b a)) (omega (arith, room)) before) q in
        let whole : ws ≡ filled (in_else c u r.other rest) it = is ∙ (λ i. followed (of_x i) (others i)) ∙ (λ i. more_stmts (If c u (r.is i)) rest) in
        let count = ap statements_count whole in
        let part = ap statements_count r.is in
        record { other = in_else c u r.other rest; alike = (u, r.other, p, r.alike, refl); is = whole; number = λ m. (let inner = r.number (m + 1 + statements_count u) in omega (arith, inner, count, part)) }
    located (in_body g gap rest) n ws before outside (x, y, inl (u, p, of_x), q, is) =
        let a = filled gap it in
        let room = number_room gap it (n + 1) in
        let r = located gap (n + 1) u before (λ l i. outside l (inr i)) p in
        let others = all_stay rest (n + statement_count (Do g a)) y (later (number_at gap (n + 1)) (n + statement_count (Do g a)) (omega (arith, room)) before) q in
        let whole : ws ≡ filled (in_body g r.other rest) it = is ∙ (λ i. followed (of_x i) (others i)) ∙ (λ i. more_stmts (Do g (r.is i)) rest) in
        let count = ap statements_count whole in
        let part = ap statements_count r.is in
        record { other = in_body g r.other rest; alike = (r.other, r.alike, refl); is = whole; number = λ m. (let inner = r.number (m + 1) in omega (arith, inner, count, part)) }
    located (in_body g gap rest) n ws before outside (x, y, inr (ps, there, m, of_x), q, is) = absurd (both_ways (is_lowered live n) (outside (record { number = n; head = g }) (inl refl)) there)

-- where more DO loops are lowered
module _ (t : ProgramTree) (live others : List ℕ) (more : (k : ℕ) → is_lowered live k ≡ true → is_lowered others k ≡ true) where
  mutual
    pub wider : (s : StmtTree) (n : ℕ) (ws : StmtTrees) → Becomes t live s n ws → Becomes t others s n ws
    wider (Assign left right) n ws b = b
    wider (If c a b) n ws (x, y, p, q, is) = (x, y, all_wider a (n + 1) x p, all_wider b (n + 1 + statements_count a) y q, is)
    wider (Do h body) n ws (inl (x, p, is)) = inl (x, all_wider body (n + 1) x p, is)
    wider (Do h body) n ws (inr (ps, there, m, is)) = inr (ps, more n there, m, is)
    wider (Print items) n ws b = b
    wider (Read items) n ws b = b
    wider Stop n ws b = b
    wider (Comment text) n ws b = b

    pub all_wider : (ss : StmtTrees) (n : ℕ) (ws : StmtTrees) → AllBecome t live ss n ws → AllBecome t others ss n ws
    all_wider no_stmts n ws b = b
    all_wider (more_stmts s rest) n ws (x, y, p, q, is) = (x, y, wider s n x p, all_wider rest (n + statement_count s) y q, is)

  module _ (s : StmtTree) (mid : StmtTrees) where
    -- what statements with a gap become, by what that in the gap becomes
    pub all_become : (gap : Gap) (n : ℕ) (other : Gap) → GapBecomes t live gap n other → Becomes t others s (number_at gap n) mid → AllBecome t others (filled gap (alone s)) n (filled other mid)
    all_become (at_front rest) n other is b = subst (λ (g : Gap). AllBecome t others (more_stmts s rest) n (filled g mid)) (sym is) (mid, rest, b, all_same t others rest (n + statement_count s), refl)
    all_become (past z gap) n other (x, g, p, q, is) b =
        subst (λ (o : Gap). AllBecome t others (more_stmts z (filled gap (alone s))) n (filled o mid)) (sym is)
        (x, filled g mid, wider z n x p, all_become gap (n + statement_count z) g q b, filled_pasts x g mid)
    all_become (in_then c gap e rest) n other (g, q, is) b =
        let a = filled gap (alone s) in
        subst (λ (o : Gap). AllBecome t others (more_stmts (If c a e) rest) n (filled o mid)) (sym is)
        (alone (If c (filled g mid) e), rest, (filled g mid, e, all_become gap (n + 1) g q b, all_same t others e (n + 1 + statements_count a), refl), all_same t others rest (n + statement_count (If c a e)), refl)
    all_become (in_else c e gap rest) n other (x, g, p, q, is) b =
        let a = filled gap (alone s) in
        subst (λ (o : Gap). AllBecome t others (more_stmts (If c e a) rest) n (filled o mid)) (sym is)
        (alone (If c x (filled g mid)), rest, (x, filled g mid, all_wider e (n + 1) x p, all_become gap (n + 1 + statements_count e) g q b, refl), all_same t others rest (n + statement_count (If c e a)), refl)
    all_become (in_body h gap rest) n other (g, q, is) b =
        let a = filled gap (alone s) in
        subst (λ (o : Gap). AllBecome t others (more_stmts (Do h a) rest) n (filled o mid)) (sym is)
        (alone (Do h (filled g mid)), rest, inl (filled g mid, all_become gap (n + 1) g q b, refl), all_same t others rest (n + statement_count (Do h a)), refl)

-- other statements for the one in a gap
module _ (by : StmtTree → StmtTrees) (k : ℕ) (h : Head) (body : StmtTrees) where
  pub replaced_filled : (gap : Gap) (m : ℕ) → number_at gap m ≡ k → all_replaced by k (filled gap (alone (Do h body))) m ≡ filled gap (by (Do h body))
  replaced_filled (at_front rest) m e =
      let first = trees.goes by k (Do h body) (Do h body) m (sym e) refl in
      let others = trees.all_stay by k rest (m + statement_count (Do h body)) (inl (omega (arith, e))) in
      λ i. followed (first i) (others i)
  replaced_filled (past z gap) m e =
      let from = number_from gap (m + statement_count z) in
      let first = trees.stays by k z m (inr (omega (arith, from, e))) in
      let others = replaced_filled gap (m + statement_count z) e in
      λ i. followed (first i) (others i)
  replaced_filled (in_then c gap b rest) m e =
      let a = filled gap (alone (Do h body)) in
      let from = number_from gap (m + 1) in
      let room = number_room gap (alone (Do h body)) (m + 1) in
      let inner = replaced_filled gap (m + 1) e in
      let second = trees.all_stay by k b (m + 1 + statements_count a) (inl (omega (arith, room, e))) in
      let others = trees.all_stay by k rest (m + statement_count (If c a b)) (inl (omega (arith, room, e))) in
      let first = trees.if_stays by k c a b m (k - (m + 1)) (omega (arith, from, e)) in
      (λ i. followed (first i) (others i)) ∙ (λ i. more_stmts (If c (inner i) (second i)) rest)
  replaced_filled (in_else c b gap rest) m e =
      let a = filled gap (alone (Do h body)) in
      let from = number_from gap (m + 1 + statements_count b) in
      let room = number_room gap (alone (Do h body)) (m + 1 + statements_count b) in
      let inner = replaced_filled gap (m + 1 + statements_count b) e in
      let second = trees.all_stay by k b (m + 1) (inr (omega (arith, from, e))) in
      let others = trees.all_stay by k rest (m + statement_count (If c b a)) (inl (omega (arith, room, e))) in
      let first = trees.if_stays by k c b a m (k - (m + 1)) (omega (arith, from, e)) in
      (λ i. followed (first i) (others i)) ∙ (λ i. more_stmts (If c (second i) (inner i)) rest)
  replaced_filled (in_body g gap rest) m e =
      let a = filled gap (alone (Do h body)) in
      let from = number_from gap (m + 1) in
      let room = number_room gap (alone (Do h body)) (m + 1) in
      let inner = replaced_filled gap (m + 1) e in
      let others = trees.all_stay by k rest (m + statement_count (Do g a)) (inl (omega (arith, room, e))) in
      let first = trees.do_stays by k g a m (k - (m + 1)) (omega (arith, from, e)) in
      (λ i. followed (first i) (others i)) ∙ (λ i. more_stmts (Do g (inner i)) rest)
