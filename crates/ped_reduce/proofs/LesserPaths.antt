-- Summaries of paths, one of which says no more of a scalar than another: where it has a read, so has the other, and where it leaves the scalar as it is, so does the other.
use Rattle.std.proofs.Common.{◌≡◌, ℕ, ◌+◌, Bool, true, false, ◌&&◌, ◌||◌, List, [], ◌∷◌, ◌++◌, map, Option, Some, None, refl, sym, ap, ◌∙◌, if◌then◌else◌}
use Rattle.std.specs.List.{list_any, flat_map}
use Rattle.std.proofs.lemmas.List.Folds.{list_any-append}
use Rattle.std.proofs.lemmas.Bool.{or_left}
use Rattle.ped_base.specs.Lists.{is_same_text, is_among}
use Rattle.ped_tree.specs.Tree.{ExprTree, Int, Var, Element, Neg, Add, Sub, Mul, Div, Pow, Call, Head, StmtTree, StmtTrees, Assign, If, Do, Print, Read, Stop, Comment, no_stmts, more_stmts}
use Rattle.ped_tree.specs.Numbering.{statement_count, statements_count}
use Rattle.ped_rules.specs.ped_flow.specs.Events.{Manner, reads, assigns, clears, Event, event, unless_constant, scalars_in, all_scalars_in, scalars_in_cond, scalars_in_item, reads_of, left_events, own_events, copied, start_events, exit_events}
use Rattle.ped_rules.specs.ped_flow.specs.Summaries.{least_of, when, passing, unreached, of_manner, summary_in_turn, summary_either, summary_trips, summary_event, summary_events, summary_loop, summary_of, summary_of_all}
use Rattle.ped_rules.specs.ped_flow.proofs.Truths.{untrue, or_none}
use Rattle.ped_rules.specs.ped_loop_runs.proofs.TidyLaws.TidyPathsSums.{Summary, IsNoMore, AreNoMore, own_exit, no_more, no_more_by, in_turn_more, either_more, trips_more, unreached_more, own_more, cleared_more}

-- no more than another
pub record IsLess (a b : Summary) : Type 0 where
  pub more : IsNoMore a b
  pub first : b.first ≡ None → a.first ≡ None

pub is_some : {A : Type 0} {n : ℕ} → Some n ≡ None → A
is_some e = absurd cc

pub none_both : (a b : Option ℕ) → least_of a b ≡ None → (a ≡ None) × (b ≡ None)
none_both None b h = (refl, h)
none_both (Some a) None h = absurd cc
none_both (Some a) (Some b) h = absurd cc

pub both_none : (a b : Option ℕ) → a ≡ None → b ≡ None → least_of a b ≡ None
both_none a b h k = λ i. least_of (h i) (k i)

when_less : (x y : Bool) (m n : Option ℕ) → (x ≡ true → y ≡ true) → (n ≡ None → m ≡ None) → when y n ≡ None → when x m ≡ None
when_less false y m n h k e = refl
when_less true y m n h k e = k (ap (λ (b : Bool). when b n) (sym (h refl)) ∙ e)

pub less_itself : (a : Summary) → IsLess a a
less_itself a = record { more = no_more a; first = λ e. e }

pub less_by : (a b c : Summary) → IsLess a b → IsLess b c → IsLess a c
less_by a b c h k = record { more = no_more_by a b c h.more k.more; first = λ e. h.first (k.first e) }

pub in_turn_less : (a b c d : Summary) → IsLess a c → IsLess b d → IsLess (summary_in_turn a b) (summary_in_turn c d)
in_turn_less a b c d h k = record {
  more = in_turn_more a b c d h.more k.more;
  first = λ e. (let p = none_both c.first (when c.keeps d.first) e in both_none a.first (when a.keeps b.first) (h.first p.0) (when_less a.keeps c.keeps b.first d.first h.more.keeps k.first p.1));
}

pub either_less : (a b c d : Summary) → IsLess a c → IsLess b d → IsLess (summary_either a b) (summary_either c d)
either_less a b c d h k = record {
  more = either_more a b c d h.more k.more;
  first = λ e. (let p = none_both c.first d.first e in both_none a.first b.first (h.first p.0) (k.first p.1));
}

pub trips_less : (a b : Summary) → IsLess a b → IsLess (summary_trips a) (summary_trips b)
trips_less a b h = record { more = trips_more a b h.more; first = h.first }

pub unreached_less : (m : Summary) → IsLess unreached m
unreached_less m = record { more = unreached_more m; first = λ e. refl }

-- what comes behind, where nothing is read there and no path ends there
pub behind_less : (a b c : Summary) → IsLess a b → (b.first ≡ None → c.first ≡ None) → c.ends ≡ false → IsLess (summary_in_turn a c) b
behind_less a b c h read ends = record {
  more = record { keeps = λ e. h.more.keeps (left a.keeps c.keeps e); ends = λ e. h.more.ends (either a.ends a.keeps c.ends ends e) };
  first = λ e. both_none a.first (when a.keeps c.first) (h.first e) (when_less a.keeps true c.first c.first (λ k. refl) (λ k. k) (read e));
}
  where
    left : (x y : Bool) → (x && y) ≡ true → x ≡ true
    left true y e = refl
    left false y e = untrue e

    either : (x y z : Bool) → z ≡ false → (x || (y && z)) ≡ true → x ≡ true
    either true y z f e = refl
    either false true z f e = untrue (sym f ∙ e)
    either false false z f e = untrue e

-- where the scalar is overwritten first, nothing counts that comes behind
pub cut_less : (a b c d : Summary) → IsLess a c → a.keeps ≡ false → IsLess (summary_in_turn a b) (summary_in_turn c d)
cut_less a b c d h cut = record {
  more = record {
    keeps = λ e. untrue (sym (ap (λ (x : Bool). x && b.keeps) cut) ∙ e);
    ends = λ e. or_left c.ends (c.keeps && d.ends) (h.more.ends (only a.ends a.keeps b.ends cut e));
  };
  first = λ e. (let p = none_both c.first (when c.keeps d.first) e in both_none a.first (when a.keeps b.first) (h.first p.0) (ap (λ (x : Bool). when x b.first) cut));
}
  where
    only : (x y z : Bool) → y ≡ false → (x || (y && z)) ≡ true → x ≡ true
    only true y z f e = refl
    only false true z f e = untrue (sym f)
    only false false z f e = untrue e

module _ (w : List ℕ) where
  -- an event is one of another scalar
  abbrev pub touches : List Event → Bool
  touches es = list_any (λ e. is_same_text w e.scalar) es

  -- events of other scalars do nothing
  quiet_first : (e : Event) → is_same_text w e.scalar ≡ false → summary_event w e ≡ passing
  quiet_first e h = ap (λ (b : Bool). if b then of_manner e.manner e.statement else passing) h

  pub quiet_events : (es : List Event) → touches es ≡ false → summary_events w es ≡ passing
  quiet_events [] h = refl
  quiet_events (e ∷ es) h = let p = or_none (is_same_text w e.scalar) (touches es) h in λ i. summary_in_turn (quiet_first e p.0 i) (quiet_events es p.1 i)

  pub touches_append : (es fs : List Event) → touches es ≡ false → touches fs ≡ false → touches (es ++ fs) ≡ false
  touches_append es fs h k = list_any-append (λ (e : Event). is_same_text w e.scalar) es fs ∙ (λ i. h i || k i)

  pub touched_by : (m : Manner) (n : ℕ) (xs : List (List ℕ)) → touches (map (event n m) xs) ≡ is_among w xs
  touched_by m n [] = refl
  touched_by m n (x ∷ xs) = ap (λ (b : Bool). is_same_text w x || b) (touched_by m n xs)

  -- events end no path
  pub events_end : (es : List Event) → (summary_events w es).ends ≡ false
  events_end [] = refl
  events_end (e ∷ es) = by (is_same_text w e.scalar) e.manner (summary_events w es) (events_end es)
    where
      by : (b : Bool) (a : Manner) (m : Summary) → m.ends ≡ false → (summary_in_turn (if b then of_manner a e.statement else passing) m).ends ≡ false
      by true reads m h = h
      by true assigns m h = refl
      by true clears m h = refl
      by false a m h = h

  -- events that clear read nothing
  clears_first : (n : ℕ) (xs : List (List ℕ)) → (summary_events w (map (event n clears) xs)).first ≡ None
  clears_first n [] = refl
  clears_first n (x ∷ xs) = by (is_same_text w x) (summary_events w (map (event n clears) xs)) (clears_first n xs)
    where
      by : (b : Bool) (m : Summary) → m.first ≡ None → (summary_in_turn (if b then of_manner clears n else passing) m).first ≡ None
      by true m h = refl
      by false m h = h

  pub cleared_less : (n m : ℕ) (xs ys : List (List ℕ)) → AreNoMore w ys xs → IsLess (summary_events w (map (event n clears) xs)) (summary_events w (map (event m clears) ys))
  cleared_less n m xs ys h = record { more = cleared_more [] w n m xs ys h; first = λ e. clears_first n xs }

  -- reads that stand first
  pub read_first : (n : ℕ) (xs : List (List ℕ)) (es : List Event) → (summary_events w (reads_of n xs ++ es)).first ≡ None → (is_among w xs ≡ false) × ((summary_events w es).first ≡ None)
  read_first n [] es h = (refl, h)
  read_first n (x ∷ xs) es h = by (is_same_text w x) h (read_first n xs es)
    where
      by : (b : Bool) → (summary_in_turn (if b then of_manner reads n else passing) (summary_events w (reads_of n xs ++ es))).first ≡ None
          → ((summary_events w (reads_of n xs ++ es)).first ≡ None → (is_among w xs ≡ false) × ((summary_events w es).first ≡ None)) → ((b || is_among w xs) ≡ false) × ((summary_events w es).first ≡ None)
      by true k more = is_some (none_both (Some n) (when true (summary_events w (reads_of n xs ++ es)).first) k).0
      by false k more = more k

  pub first_read : (n : ℕ) (xs : List (List ℕ)) (es : List Event) → is_among w xs ≡ false → (summary_events w es).first ≡ None → (summary_events w (reads_of n xs ++ es)).first ≡ None
  first_read n [] es h k = k
  first_read n (x ∷ xs) es h k =
      let p = or_none (is_same_text w x) (is_among w xs) h in
      ap (λ (b : Bool). (summary_in_turn (if b then of_manner reads n else passing) (summary_events w (reads_of n xs ++ es))).first) p.0 ∙ first_read n xs es p.1 k

  module _ (cs : List (List ℕ)) where
    pub assigned_first : (n : ℕ) (xs : List (List ℕ)) → (summary_events w (map (event n assigns) xs)).first ≡ None
    assigned_first n [] = refl
    assigned_first n (x ∷ xs) = by (is_same_text w x) (summary_events w (map (event n assigns) xs)) (assigned_first n xs)
      where
        by : (b : Bool) (m : Summary) → m.first ≡ None → (summary_in_turn (if b then of_manner assigns n else passing) m).first ≡ None
        by true m h = refl
        by false m h = h

    no_events : (es : List Event) → es ++ [] ≡ es
    no_events [] = refl
    no_events (e ∷ es) = ap (λ (z : List Event). e ∷ z) (no_events es)

    reads_alone : (n m : ℕ) (xs : List (List ℕ)) → (summary_events w (reads_of m xs)).first ≡ None → (summary_events w (reads_of n xs)).first ≡ None
    reads_alone n m xs h =
        ap (λ (es : List Event). (summary_events w es).first) (sym (no_events (reads_of n xs)))
        ∙ first_read n xs [] (read_first m xs [] (ap (λ (es : List Event). (summary_events w es).first) (no_events (reads_of m xs)) ∙ h)).0 refl

    -- events under another number
    abbrev pub renamed : ℕ → Event → Event
    renamed m e = event m e.manner e.scalar

    renamed_first : (m : ℕ) (es : List Event) → (summary_events w es).first ≡ None → (summary_events w (map (renamed m) es)).first ≡ None
    renamed_first m [] h = refl
    renamed_first m (e ∷ es) h = by (is_same_text w e.scalar) e.manner h (renamed_first m es)
      where
        by : (b : Bool) (a : Manner) → (summary_in_turn (if b then of_manner a e.statement else passing) (summary_events w es)).first ≡ None → ((summary_events w es).first ≡ None → (summary_events w (map (renamed m) es)).first ≡ None)
            → (summary_in_turn (if b then of_manner a m else passing) (summary_events w (map (renamed m) es))).first ≡ None
        by true reads k more = is_some (none_both (Some e.statement) (when true (summary_events w es).first) k).0
        by true assigns k more = refl
        by true clears k more = refl
        by false a k more = more k

    mapped : (a : Manner) (n m : ℕ) (xs : List (List ℕ)) → map (event m a) xs ≡ map (renamed m) (map (event n a) xs)
    mapped a n m [] = refl
    mapped a n m (x ∷ xs) = ap (λ (es : List Event). event m a x ∷ es) (mapped a n m xs)

    renamed_append : (m : ℕ) (es fs : List Event) → map (renamed m) (es ++ fs) ≡ map (renamed m) es ++ map (renamed m) fs
    renamed_append m [] fs = refl
    renamed_append m (e ∷ es) fs = ap (λ (z : List Event). renamed m e ∷ z) (renamed_append m es fs)

    left_renamed : (n m : ℕ) (e : ExprTree) → left_events cs m e ≡ map (renamed m) (left_events cs n e)
    left_renamed n m (Var x) = mapped assigns n m (unless_constant cs x)
    left_renamed n m (Element x es) = mapped reads n m (all_scalars_in cs es)
    left_renamed n m (Int k) = refl
    left_renamed n m (Neg a) = refl
    left_renamed n m (Add a b) = refl
    left_renamed n m (Sub a b) = refl
    left_renamed n m (Mul a b) = refl
    left_renamed n m (Div a b) = refl
    left_renamed n m (Pow a b) = refl
    left_renamed n m (Call f es) = refl

    lefts_renamed : (n m : ℕ) (items : List ExprTree) → flat_map (left_events cs m) items ≡ map (renamed m) (flat_map (left_events cs n) items)
    lefts_renamed n m [] = refl
    lefts_renamed n m (e ∷ es) = (λ i. left_renamed n m e i ++ lefts_renamed n m es i) ∙ sym (renamed_append m (left_events cs n e) (flat_map (left_events cs n) es))

    pub own_renamed : (s : StmtTree) (n m : ℕ) → own_events cs m s ≡ map (renamed m) (own_events cs n s)
    own_renamed (Assign left right) n m = (λ i. mapped reads n m (scalars_in cs right) i ++ left_renamed n m left i) ∙ sym (renamed_append m (reads_of n (scalars_in cs right)) (left_events cs n left))
    own_renamed (If c a b) n m = mapped reads n m (scalars_in_cond cs c)
    own_renamed (Do h body) n m =
        (λ i. mapped reads n m (scalars_in cs h.first ++ scalars_in cs h.last) i ++ event m assigns h.variable ∷ [])
        ∙ sym (renamed_append m (reads_of n (scalars_in cs h.first ++ scalars_in cs h.last)) (event n assigns h.variable ∷ []))
    own_renamed (Print items) n m = mapped reads n m (flat_map (scalars_in_item cs) items)
    own_renamed (Read items) n m = lefts_renamed n m items
    own_renamed Stop n m = refl
    own_renamed (Comment text) n m = refl

    -- a statement by itself, under another number
    pub own_less : (s : StmtTree) (n m : ℕ) → IsLess (summary_events w (own_events cs n s)) (summary_events w (own_events cs m s))
    own_less s n m = record {
      more = own_more cs w s s n m (λ e. e);
      first = λ e. ap (λ (es : List Event). (summary_events w es).first) (own_renamed s m n) ∙ renamed_first n (own_events cs m s) e;
    }

    -- a DO with a lesser body, which clears as much
    pub loop_less : (h g : Head) (body other : StmtTrees) (n m : ℕ) (a b : Summary) → AreNoMore w (copied g other) (copied h body) → AreNoMore w (own_exit g ++ copied g other) (own_exit h ++ copied h body) → IsLess a b → IsLess (summary_loop w n h body a) (summary_loop w m g other b)
    loop_less h g body other n m a b start exit k =
        in_turn_less (summary_trips (summary_in_turn (summary_events w (start_events n h body)) a)) (summary_events w (exit_events n h body)) (summary_trips (summary_in_turn (summary_events w (start_events m g other)) b)) (summary_events w (exit_events m g other))
        (trips_less (summary_in_turn (summary_events w (start_events n h body)) a) (summary_in_turn (summary_events w (start_events m g other)) b)
        (in_turn_less (summary_events w (start_events n h body)) a (summary_events w (start_events m g other)) b (cleared_less n m (copied h body) (copied g other) start) k))
        (cleared_less n m (own_exit h ++ copied h body) (own_exit g ++ copied g other) exit)

    mutual
      pub same_less : (s : StmtTree) (n m : ℕ) → IsLess (summary_of cs w s n) (summary_of cs w s m)
      same_less (Assign left right) n m = own_less (Assign left right) n m
      same_less (If c a b) n m =
          in_turn_less (summary_events w (own_events cs n (If c a b))) (summary_either (summary_of_all cs w a (n + 1)) (summary_of_all cs w b (n + 1 + statements_count a)))
          (summary_events w (own_events cs m (If c a b))) (summary_either (summary_of_all cs w a (m + 1)) (summary_of_all cs w b (m + 1 + statements_count a)))
          (own_less (If c a b) n m)
          (either_less (summary_of_all cs w a (n + 1)) (summary_of_all cs w b (n + 1 + statements_count a)) (summary_of_all cs w a (m + 1)) (summary_of_all cs w b (m + 1 + statements_count a))
          (all_same_less a (n + 1) (m + 1)) (all_same_less b (n + 1 + statements_count a) (m + 1 + statements_count a)))
      same_less (Do h body) n m =
          in_turn_less (summary_events w (own_events cs n (Do h body))) (summary_loop w n h body (summary_of_all cs w body (n + 1))) (summary_events w (own_events cs m (Do h body))) (summary_loop w m h body (summary_of_all cs w body (m + 1)))
          (own_less (Do h body) n m)
          (loop_less h h body body n m (summary_of_all cs w body (n + 1)) (summary_of_all cs w body (m + 1)) (λ e. e) (λ e. e) (all_same_less body (n + 1) (m + 1)))
      same_less (Print items) n m = own_less (Print items) n m
      same_less (Read items) n m = own_less (Read items) n m
      same_less Stop n m = less_itself (summary_of cs w Stop n)
      same_less (Comment text) n m = less_itself passing

      pub all_same_less : (ss : StmtTrees) (n m : ℕ) → IsLess (summary_of_all cs w ss n) (summary_of_all cs w ss m)
      all_same_less no_stmts n m = less_itself passing
      all_same_less (more_stmts s rest) n m =
          in_turn_less (summary_of cs w s n) (summary_of_all cs w rest (n + statement_count s)) (summary_of cs w s m) (summary_of_all cs w rest (m + statement_count s)) (same_less s n m) (all_same_less rest (n + statement_count s) (m + statement_count s))
