-- What isn't live behind the one DO isn't live behind the second of two, where both leave and read the scalar alike: summaries of paths, with their reads.
use Rattle.std.proofs.Common.{Bool, List, None, Option, Some, [], ap, arith, false, if◌then◌else◌, is_some, map, refl, subst, sym, true, ℕ, ◌&&◌, ◌++◌, ◌+◌, ◌<◌, ◌==◌, ◌||◌, ◌∙◌, ◌∷◌, ◌≡◌}
use Rattle.std.proofs.lemmas.Bool.{both_ways}
use Rattle.std.specs.List.{flat_map}
use Rattle.ped_base.specs.Lists.{is_same_text}
use Rattle.ped_tree.specs.NamesIn.{all_loop_variables}
use Rattle.ped_tree.specs.Numbering.{statement_count, statements_count}
use Rattle.ped_tree.specs.Tree.{Add, Assign, Call, Comment, Div, Do, Element, ExprTree, Head, If, Int, Mul, Neg, Pow, Print, Read, StmtTree, StmtTrees, Stop, Sub, Var, more_stmts, no_stmts}
use Rattle.ped_rules.specs.ped_loop_runs.proofs.TidyLaws.TidyPathsGaps.{IsPlaced, in_turn_none, part_placed}
use Rattle.ped_rules.specs.ped_loop_runs.proofs.TidyLaws.TidyPathsSums.{AreNoMore, IsNoMore, Summary, append_more, cleared_more, copied_more, either_more, in_turn_more, no_more, no_more_by, or_more, same_head_clears, trips_more, unreached_more}
use Rattle.ped_rules.specs.ped_flow.specs.Events.{Event, all_scalars_in, assigns, clears, copied, event, exit_events, left_events, own_events, reads_of, scalars_in, scalars_in_cond, scalars_in_item, start_events, unless_constant}
use Rattle.ped_rules.specs.ped_flow.specs.Summaries.{least_of, of_manner, passing, summary_at_once, summary_behind, summary_behind_all, summary_either, summary_event, summary_events, summary_in_turn, summary_loop, summary_of, summary_of_all, summary_trips, unreached, when}
use Rattle.ped_rules.specs.ped_flow.specs.Events as events

pub is_least : (o r : Option ℕ) → is_some (least_of o r) ≡ is_some o || is_some r
is_least None r = refl
is_least (Some n) None = refl
is_least (Some n) (Some k) = refl

pub is_when : (b : Bool) (o : Option ℕ) → is_some (when b o) ≡ b && is_some o
is_when true o = refl
is_when false o = refl

and_more : (a b c d : Bool) → (a ≡ true → c ≡ true) → (b ≡ true → d ≡ true) → a && b ≡ true → c && d ≡ true
and_more true true c d h k e = λ i. h refl i && k refl i
and_more true false c d h k e = absurd cc
and_more false b c d h k e = absurd cc

-- the paths of the first leave the scalar as it is, and read it first, only where those of the other do
pub record IsNoLess (a b : Summary) : Type 0 where
  pub more : IsNoMore a b
  pub reads : is_some a.first ≡ true → is_some b.first ≡ true

pub itself : (a : Summary) → IsNoLess a a
itself a = record { more = no_more a; reads = λ e. e }

pub further : (a b c : Summary) → IsNoLess a b → IsNoLess b c → IsNoLess a c
further a b c h k = record { more = no_more_by a b c h.more k.more; reads = λ e. k.reads (h.reads e) }

pub turn_less : (a b c d : Summary) → IsNoLess a c → IsNoLess b d → IsNoLess (summary_in_turn a b) (summary_in_turn c d)
turn_less a b c d h k = record {
  more = in_turn_more a b c d h.more k.more;
  reads = λ e.
      first_is c d
      ∙ or_more (is_some a.first) (a.keeps && is_some b.first) (is_some c.first) (c.keeps && is_some d.first) h.reads (and_more a.keeps (is_some b.first) c.keeps (is_some d.first) h.more.keeps k.reads) (sym (first_is a b) ∙ e);
}
  where
    first_is : (m n : Summary) → is_some (summary_in_turn m n).first ≡ is_some m.first || (m.keeps && is_some n.first)
    first_is m n = is_least m.first (when m.keeps n.first) ∙ ap (λ (b : Bool). is_some m.first || b) (is_when m.keeps n.first)

pub either_less : (a b c d : Summary) → IsNoLess a c → IsNoLess b d → IsNoLess (summary_either a b) (summary_either c d)
either_less a b c d h k = record {
  more = either_more a b c d h.more k.more;
  reads = λ e. is_least c.first d.first ∙ or_more (is_some a.first) (is_some b.first) (is_some c.first) (is_some d.first) h.reads k.reads (sym (is_least a.first b.first) ∙ e);
}

trips_less : (a b : Summary) → IsNoLess a b → IsNoLess (summary_trips a) (summary_trips b)
trips_less a b h = record { more = trips_more a b h.more; reads = h.reads }

pub none_less : (a : Summary) → IsNoLess unreached a
none_less a = record { more = unreached_more a; reads = λ e. absurd cc }

pub turn_none : (a b : Summary) → IsNoLess a unreached → IsNoLess (summary_in_turn a b) unreached
turn_none a b h = further (summary_in_turn a b) (summary_in_turn unreached b) unreached (turn_less a b unreached b h (itself b)) (record { more = in_turn_none unreached b (no_more unreached); reads = λ e. e })

pub either_none_less : (a b : Summary) → IsNoLess a unreached → IsNoLess b unreached → IsNoLess (summary_either a b) unreached
either_none_less a b h k = either_less a b unreached unreached h k

module _ (cs : List (List ℕ)) (w : List ℕ) where
  -- events that read and overwrite alike
  event_reads : (e f : Event) → e.scalar ≡ f.scalar → e.manner ≡ f.manner → is_some (summary_event w e).first ≡ is_some (summary_event w f).first
  event_reads e f scalar manner = (λ i. is_some (if is_same_text w (scalar i) then of_manner (manner i) e.statement else passing).first) ∙ by (is_same_text w f.scalar) f.manner
    where
      by : (b : Bool) (m : events.Manner) → is_some (if b then of_manner m e.statement else passing).first ≡ is_some (if b then of_manner m f.statement else passing).first
      by true events.reads = refl
      by true assigns = refl
      by true clears = refl
      by false m = refl

  -- the same events under other numbers
  abbrev AreAlike : List Event → List Event → Type 0
  AreAlike [] [] = Unit {0}
  AreAlike [] (f ∷ fs) = ⊥
  AreAlike (e ∷ es) [] = ⊥
  AreAlike (e ∷ es) (f ∷ fs) = (e.scalar ≡ f.scalar) × (e.manner ≡ f.manner) × AreAlike es fs

  event_less : (e f : Event) → e.scalar ≡ f.scalar → e.manner ≡ f.manner → IsNoLess (summary_event w e) (summary_event w f)
  event_less e f scalar manner = record {
    more = subst (λ (y : List ℕ). IsNoMore (summary_event w e) (if is_same_text w y then of_manner f.manner f.statement else passing)) scalar
        (subst (λ (m : events.Manner). IsNoMore (summary_event w e) (if is_same_text w e.scalar then of_manner m f.statement else passing)) manner (by (is_same_text w e.scalar) e.manner));
    reads = λ h. sym (event_reads e f scalar manner) ∙ h;
  }
    where
      by : (b : Bool) (m : events.Manner) → IsNoMore (if b then of_manner m e.statement else passing) (if b then of_manner m f.statement else passing)
      by true events.reads = record { keeps = λ h. h; ends = λ h. h }
      by true assigns = record { keeps = λ h. h; ends = λ h. h }
      by true clears = record { keeps = λ h. h; ends = λ h. h }
      by false m = no_more passing

  pub events_less : (es fs : List Event) → AreAlike es fs → IsNoLess (summary_events w es) (summary_events w fs)
  events_less [] [] h = itself passing
  events_less [] (f ∷ fs) h = absurd h
  events_less (e ∷ es) [] h = absurd h
  events_less (e ∷ es) (f ∷ fs) h = turn_less (summary_event w e) (summary_events w es) (summary_event w f) (summary_events w fs) (event_less e f h.0 h.1) (events_less es fs h.2)

  mapped_alike : (manner : events.Manner) (n m : ℕ) (names : List (List ℕ)) → AreAlike (map (event n manner) names) (map (event m manner) names)
  mapped_alike manner n m [] = tt
  mapped_alike manner n m (y ∷ ys) = (refl, refl, mapped_alike manner n m ys)

  joined_alike : (es fs gs hs : List Event) → AreAlike es fs → AreAlike gs hs → AreAlike (es ++ gs) (fs ++ hs)
  joined_alike [] [] gs hs h k = k
  joined_alike [] (f ∷ fs) gs hs h k = absurd h
  joined_alike (e ∷ es) [] gs hs h k = absurd h
  joined_alike (e ∷ es) (f ∷ fs) gs hs h k = (h.0, h.1, joined_alike es fs gs hs h.2 k)

  left_alike : (n m : ℕ) (z : ExprTree) → AreAlike (left_events cs n z) (left_events cs m z)
  left_alike n m (Var y) = mapped_alike assigns n m (unless_constant cs y)
  left_alike n m (Element y es) = mapped_alike events.reads n m (all_scalars_in cs es)
  left_alike n m (Int k) = tt
  left_alike n m (Neg a) = tt
  left_alike n m (Add a b) = tt
  left_alike n m (Sub a b) = tt
  left_alike n m (Mul a b) = tt
  left_alike n m (Div a b) = tt
  left_alike n m (Pow a b) = tt
  left_alike n m (Call f es) = tt

  lefts_alike : (n m : ℕ) (zs : List ExprTree) → AreAlike (flat_map (left_events cs n) zs) (flat_map (left_events cs m) zs)
  lefts_alike n m [] = tt
  lefts_alike n m (z ∷ zs) = joined_alike (left_events cs n z) (left_events cs m z) (flat_map (left_events cs n) zs) (flat_map (left_events cs m) zs) (left_alike n m z) (lefts_alike n m zs)

  -- the bounds of a DO, and its variable
  pub head_alike : (n m : ℕ) (h g : Head) (body others : StmtTrees) → h.first ≡ g.first → h.last ≡ g.last → h.variable ≡ g.variable → AreAlike (own_events cs n (Do h body)) (own_events cs m (Do g others))
  head_alike n m h g body others first last variable =
      joined_alike (reads_of n (scalars_in cs h.first ++ scalars_in cs h.last)) (reads_of m (scalars_in cs g.first ++ scalars_in cs g.last)) (event n assigns h.variable ∷ []) (event m assigns g.variable ∷ [])
      (subst (λ (ys : List (List ℕ)). AreAlike (reads_of n (scalars_in cs h.first ++ scalars_in cs h.last)) (reads_of m ys)) (λ i. scalars_in cs (first i) ++ scalars_in cs (last i)) (mapped_alike events.reads n m (scalars_in cs h.first ++ scalars_in cs h.last)))
      (variable, refl, tt)

  own_alike : (z : StmtTree) (n m : ℕ) → AreAlike (own_events cs n z) (own_events cs m z)
  own_alike (Assign left right) n m = joined_alike (reads_of n (scalars_in cs right)) (reads_of m (scalars_in cs right)) (left_events cs n left) (left_events cs m left) (mapped_alike events.reads n m (scalars_in cs right)) (left_alike n m left)
  own_alike (If c a b) n m = mapped_alike events.reads n m (scalars_in_cond cs c)
  own_alike (Do h body) n m = head_alike n m h h body body refl refl refl
  own_alike (Print items) n m = mapped_alike events.reads n m (flat_map (scalars_in_item cs) items)
  own_alike (Read items) n m = lefts_alike n m items
  own_alike Stop n m = tt
  own_alike (Comment text) n m = tt

  pub own_less : (z : StmtTree) (n m : ℕ) → IsNoLess (summary_events w (own_events cs n z)) (summary_events w (own_events cs m z))
  own_less z n m = events_less (own_events cs n z) (own_events cs m z) (own_alike z n m)

  -- what clears reads nothing
  pub clears_read_none : (n : ℕ) (ys : List (List ℕ)) → is_some (summary_events w (map (event n clears) ys)).first ≡ false
  clears_read_none n [] = refl
  clears_read_none n (y ∷ ys) =
      is_least (summary_event w (event n clears y)).first (when (summary_event w (event n clears y)).keeps (summary_events w (map (event n clears) ys)).first)
      ∙ (λ i. by (is_same_text w y) i || is_when (summary_event w (event n clears y)).keeps (summary_events w (map (event n clears) ys)).first i)
      ∙ (λ i. (summary_event w (event n clears y)).keeps && clears_read_none n ys i)
      ∙ and_false (summary_event w (event n clears y)).keeps
    where
      by : (b : Bool) → is_some (if b then of_manner clears n else passing).first ≡ false
      by true = refl
      by false = refl

      and_false : (b : Bool) → b && false ≡ false
      and_false true = refl
      and_false false = refl

  clears_less : (n m : ℕ) (xs ys : List (List ℕ)) → AreNoMore w ys xs → IsNoLess (summary_events w (map (event n clears) xs)) (summary_events w (map (event m clears) ys))
  clears_less n m xs ys h = record { more = cleared_more cs w n m xs ys h; reads = λ e. absurd (both_ways (is_some (summary_events w (map (event n clears) xs)).first) (clears_read_none n xs) e) }

  -- the rest of the trips of a DO, with the same head and other statements in it
  pub loop_less : (h : Head) (body others : StmtTrees) (n m : ℕ) (a b : Summary) → AreNoMore w (all_loop_variables others) (all_loop_variables body) → IsNoLess a b → IsNoLess (summary_loop w n h body a) (summary_loop w m h others b)
  loop_less h body others n m a b loops k =
      let copies : AreNoMore w (copied h others) (copied h body) = copied_more cs w h h body others (same_head_clears cs w h body others loops) in
      turn_less (summary_trips (summary_in_turn (summary_events w (start_events n h body)) a)) (summary_events w (exit_events n h body)) (summary_trips (summary_in_turn (summary_events w (start_events m h others)) b)) (summary_events w (exit_events m h others))
      (trips_less (summary_in_turn (summary_events w (start_events n h body)) a) (summary_in_turn (summary_events w (start_events m h others)) b)
      (turn_less (summary_events w (start_events n h body)) a (summary_events w (start_events m h others)) b (clears_less n m (copied h body) (copied h others) copies) k))
      (clears_less n m ((if h.parallel then h.variable ∷ [] else []) ++ copied h body) ((if h.parallel then h.variable ∷ [] else []) ++ copied h others)
      (append_more w (if h.parallel then h.variable ∷ [] else []) (copied h others) (if h.parallel then h.variable ∷ [] else []) (copied h body) (λ e. e) copies))

  -- under other numbers statements do the same
  mutual
    pub number_less : (z : StmtTree) (n m : ℕ) → IsNoLess (summary_of cs w z n) (summary_of cs w z m)
    number_less (Assign left right) n m = own_less (Assign left right) n m
    number_less (If c a b) n m =
        turn_less (summary_events w (own_events cs n (If c a b))) (summary_either (summary_of_all cs w a (n + 1)) (summary_of_all cs w b (n + 1 + statements_count a))) (summary_events w (own_events cs m (If c a b))) (summary_either (summary_of_all cs w a (m + 1)) (summary_of_all cs w b (m + 1 + statements_count a)))
        (own_less (If c a b) n m)
        (either_less (summary_of_all cs w a (n + 1)) (summary_of_all cs w b (n + 1 + statements_count a)) (summary_of_all cs w a (m + 1)) (summary_of_all cs w b (m + 1 + statements_count a)) (numbers_less a (n + 1) (m + 1)) (numbers_less b (n + 1 + statements_count a) (m + 1 + statements_count a)))
    number_less (Do h body) n m =
        turn_less (summary_events w (own_events cs n (Do h body))) (summary_loop w n h body (summary_of_all cs w body (n + 1))) (summary_events w (own_events cs m (Do h body))) (summary_loop w m h body (summary_of_all cs w body (m + 1)))
        (own_less (Do h body) n m) (loop_less h body body n m (summary_of_all cs w body (n + 1)) (summary_of_all cs w body (m + 1)) (λ e. e) (numbers_less body (n + 1) (m + 1)))
    number_less (Print items) n m = own_less (Print items) n m
    number_less (Read items) n m = own_less (Read items) n m
    number_less Stop n m = itself (summary_of cs w Stop n)
    number_less (Comment text) n m = itself passing

    pub numbers_less : (zs : StmtTrees) (n m : ℕ) → IsNoLess (summary_of_all cs w zs n) (summary_of_all cs w zs m)
    numbers_less no_stmts n m = itself passing
    numbers_less (more_stmts z rest) n m =
        turn_less (summary_of cs w z n) (summary_of_all cs w rest (n + statement_count z)) (summary_of cs w z m) (summary_of_all cs w rest (m + statement_count z)) (number_less z n m) (numbers_less rest (n + statement_count z) (m + statement_count z))

  here_placed : (k n l m count : ℕ) → 0 < count → IsPlaced k n l m count → (k == n) ≡ (l == m)
  here_placed k n l m count some p =
      let a : n ≡ n + 0 = omega arith in
      let b : m ≡ m + 0 = omega arith in
      ap (λ (z : ℕ). k == z) a ∙ p 0 some ∙ ap (λ (z : ℕ). l == z) (sym b)

  at_once_less : (k n l m : ℕ) → (k == n) ≡ (l == m) → IsNoLess (summary_at_once (k == n)) (summary_at_once (l == m))
  at_once_less k n l m e = subst (λ (b : Bool). IsNoLess (summary_at_once (k == n)) (summary_at_once b)) e (itself (summary_at_once (k == n)))

  pub rest_less : (z y : StmtTree) (rest others : StmtTrees) (k n l m i j : ℕ) → IsNoLess (summary_behind cs w k z n) (summary_behind cs w l y m) → IsNoLess (summary_of_all cs w rest i) (summary_of_all cs w others j) → IsNoLess (summary_behind_all cs w k rest i) (summary_behind_all cs w l others j)
      → IsNoLess (summary_either (summary_in_turn (summary_behind cs w k z n) (summary_of_all cs w rest i)) (summary_behind_all cs w k rest i)) (summary_either (summary_in_turn (summary_behind cs w l y m) (summary_of_all cs w others j)) (summary_behind_all cs w l others j))
  rest_less z y rest others k n l m i j one on behind =
      either_less (summary_in_turn (summary_behind cs w k z n) (summary_of_all cs w rest i)) (summary_behind_all cs w k rest i) (summary_in_turn (summary_behind cs w l y m) (summary_of_all cs w others j)) (summary_behind_all cs w l others j)
      (turn_less (summary_behind cs w k z n) (summary_of_all cs w rest i) (summary_behind cs w l y m) (summary_of_all cs w others j) one on) behind

  pub do_behind_less : (h : Head) (body others : StmtTrees) (k n l m : ℕ) → (k == n) ≡ (l == m) → AreNoMore w (all_loop_variables others) (all_loop_variables body) → IsNoLess (summary_behind_all cs w k body (n + 1)) (summary_behind_all cs w l others (m + 1)) → IsNoLess (summary_of_all cs w body (n + 1)) (summary_of_all cs w others (m + 1))
      → IsNoLess (summary_behind cs w k (Do h body) n) (summary_behind cs w l (Do h others) m)
  do_behind_less h body others k n l m e loops inner all =
      either_less (summary_at_once (k == n)) (summary_in_turn (summary_behind_all cs w k body (n + 1)) (summary_loop w n h body (summary_of_all cs w body (n + 1)))) (summary_at_once (l == m)) (summary_in_turn (summary_behind_all cs w l others (m + 1)) (summary_loop w m h others (summary_of_all cs w others (m + 1))))
      (at_once_less k n l m e)
      (turn_less (summary_behind_all cs w k body (n + 1)) (summary_loop w n h body (summary_of_all cs w body (n + 1))) (summary_behind_all cs w l others (m + 1)) (summary_loop w m h others (summary_of_all cs w others (m + 1))) inner
      (loop_less h body others n m (summary_of_all cs w body (n + 1)) (summary_of_all cs w others (m + 1)) loops all))

  -- from the exit of a DO, where its number stands alike
  mutual
    pub behind_less : (z : StmtTree) (k n l m : ℕ) → IsPlaced k n l m (statement_count z) → IsNoLess (summary_behind cs w k z n) (summary_behind cs w l z m)
    behind_less (Assign left right) k n l m p = itself unreached
    behind_less (If c a b) k n l m p =
        let count = statements_count a + statements_count b + 1 in
        either_less (summary_behind_all cs w k a (n + 1)) (summary_behind_all cs w k b (n + 1 + statements_count a)) (summary_behind_all cs w l a (m + 1)) (summary_behind_all cs w l b (m + 1 + statements_count a))
        (all_behind_less a k (n + 1) l (m + 1) (part_placed k n l m count 1 (statements_count a) (n + 1) (m + 1) (omega arith) refl refl p))
        (all_behind_less b k (n + 1 + statements_count a) l (m + 1 + statements_count a) (part_placed k n l m count (1 + statements_count a) (statements_count b) (n + 1 + statements_count a) (m + 1 + statements_count a) (omega arith) (omega arith) (omega arith) p))
    behind_less (Do h body) k n l m p =
        do_behind_less h body body k n l m (here_placed k n l m (statements_count body + 1) (omega arith) p) (λ e. e)
        (all_behind_less body k (n + 1) l (m + 1) (part_placed k n l m (statements_count body + 1) 1 (statements_count body) (n + 1) (m + 1) (omega arith) refl refl p)) (numbers_less body (n + 1) (m + 1))
    behind_less (Print items) k n l m p = itself unreached
    behind_less (Read items) k n l m p = itself unreached
    behind_less Stop k n l m p = itself unreached
    behind_less (Comment text) k n l m p = itself unreached

    pub all_behind_less : (zs : StmtTrees) (k n l m : ℕ) → IsPlaced k n l m (statements_count zs) → IsNoLess (summary_behind_all cs w k zs n) (summary_behind_all cs w l zs m)
    all_behind_less no_stmts k n l m p = itself unreached
    all_behind_less (more_stmts z rest) k n l m p =
        let count = statement_count z + statements_count rest in
        rest_less z z rest rest k n l m (n + statement_count z) (m + statement_count z)
        (behind_less z k n l m (part_placed k n l m count 0 (statement_count z) n m (omega arith) (omega arith) (omega arith) p))
        (numbers_less rest (n + statement_count z) (m + statement_count z))
        (all_behind_less rest k (n + statement_count z) l (m + statement_count z) (part_placed k n l m count (statement_count z) (statements_count rest) (n + statement_count z) (m + statement_count z) (omega arith) refl refl p))
