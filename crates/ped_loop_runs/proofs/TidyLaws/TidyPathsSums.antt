-- Summaries of paths, one of which leaves no more of a scalar than another: where it leaves the scalar as it is, so does the other.
use Rattle.std.proofs.Common.{◌≡◌, ℕ, ◌+◌, Bool, true, false, not, ◌&&◌, ◌||◌, List, [], ◌∷◌, ◌++◌, map, refl, sym, ap, subst, ◌∙◌, if◌then◌else◌}
use Rattle.std.specs.List.{flat_map}
use Rattle.std.proofs.lemmas.List.Folds.{list_any-append}
use Rattle.ped_bodies.specs.ped_flow.specs.ped_base.specs.Lists.{is_same_text, is_among}
use Rattle.ped_bodies.specs.ped_flow.specs.ped_tree.specs.Tree.{ExprTree, Int, Var, Element, Neg, Add, Sub, Mul, Div, Pow, Call, Head, StmtTree, StmtTrees, Assign, If, Do, Print, Read, Stop, Comment, no_stmts, more_stmts}
use Rattle.ped_bodies.specs.ped_flow.specs.ped_tree.specs.Numbering.{statement_count, statements_count}
use Rattle.ped_bodies.specs.ped_flow.specs.ped_tree.specs.NamesIn.{all_loop_variables}
use Rattle.ped_bodies.specs.ped_flow.specs.Events.{Manner, reads, assigns, clears, Event, event, unless_constant, scalars_in, all_scalars_in, scalars_in_cond, scalars_in_item, reads_of, left_events, own_events, copied, start_events, exit_events, is_overwriting, is_overwriting_of, overwrites}
use Rattle.ped_bodies.specs.ped_flow.specs.Summaries.{passing, unreached, of_manner, summary_in_turn, summary_either, summary_trips, summary_event, summary_events, summary_loop, summary_of, summary_of_all}
use Rattle.ped_bodies.specs.ped_flow.proofs.Truths.{untrue}

abbrev type_of : {A : Type 0} → A → Type 0
type_of {A = A} a = A

-- what paths do to a scalar: a record of ped_flow, which has no name outside that crate
abbrev pub Summary : Type 0
Summary = type_of passing

-- the paths of the first leave the scalar as it is only where those of the other do
pub record IsNoMore (m other : Summary) : Type 0 where
  pub keeps : m.keeps ≡ true → other.keeps ≡ true
  pub ends : m.ends ≡ true → other.ends ≡ true

and_more : (a b c d : Bool) → (a ≡ true → c ≡ true) → (b ≡ true → d ≡ true) → (a && b) ≡ true → (c && d) ≡ true
and_more true true c d h k e = λ i. h refl i && k refl i
and_more true false c d h k e = untrue e
and_more false b c d h k e = untrue e

pub or_more : (a b c d : Bool) → (a ≡ true → c ≡ true) → (b ≡ true → d ≡ true) → (a || b) ≡ true → (c || d) ≡ true
or_more true b c d h k e = ap (λ (z : Bool). z || d) (h refl)
or_more false b true d h k e = refl
or_more false b false d h k e = k e

not_more : (a b : Bool) → (b ≡ true → a ≡ true) → not a ≡ true → not b ≡ true
not_more true b h e = untrue e
not_more false true h e = untrue (h refl)
not_more false false h e = refl

and_false : (a : Bool) → (a && false) ≡ false
and_false true = refl
and_false false = refl

and_true : (a : Bool) → (a && true) ≡ a
and_true true = refl
and_true false = refl

not_or : (a b : Bool) → not (a || b) ≡ (not a && not b)
not_or true b = refl
not_or false b = refl

-- a summary leaves no more than itself
pub no_more : (m : Summary) → IsNoMore m m
no_more m = record { keeps = λ e. e; ends = λ e. e }

pub same_no_more : (m other : Summary) → m ≡ other → IsNoMore m other
same_no_more m other e = subst (IsNoMore m) e (no_more m)

pub no_more_by : (a b c : Summary) → IsNoMore a b → IsNoMore b c → IsNoMore a c
no_more_by a b c h k = record { keeps = λ e. k.keeps (h.keeps e); ends = λ e. k.ends (h.ends e) }

pub in_turn_more : (a b c d : Summary) → IsNoMore a c → IsNoMore b d → IsNoMore (summary_in_turn a b) (summary_in_turn c d)
in_turn_more a b c d h k = record {
  keeps = and_more a.keeps b.keeps c.keeps d.keeps h.keeps k.keeps;
  ends = or_more a.ends (a.keeps && b.ends) c.ends (c.keeps && d.ends) h.ends (and_more a.keeps b.ends c.keeps d.ends h.keeps k.ends);
}

pub either_more : (a b c d : Summary) → IsNoMore a c → IsNoMore b d → IsNoMore (summary_either a b) (summary_either c d)
either_more a b c d h k = record { keeps = or_more a.keeps b.keeps c.keeps d.keeps h.keeps k.keeps; ends = or_more a.ends b.ends c.ends d.ends h.ends k.ends }

pub trips_more : (a b : Summary) → IsNoMore a b → IsNoMore (summary_trips a) (summary_trips b)
trips_more a b h = record { keeps = λ e. refl; ends = h.ends }

-- no path leaves anything
pub unreached_more : (m : Summary) → IsNoMore unreached m
unreached_more m = record { keeps = λ e. untrue e; ends = λ e. untrue e }

-- names among which the scalar is only where it is among others
abbrev pub AreNoMore : List ℕ → List (List ℕ) → List (List ℕ) → Type 0
AreNoMore w xs ys = is_among w xs ≡ true → is_among w ys ≡ true

pub append_more : (w : List ℕ) (xs ys us vs : List (List ℕ)) → AreNoMore w xs us → AreNoMore w ys vs → AreNoMore w (xs ++ ys) (us ++ vs)
append_more w xs ys us vs h k e =
    list_any-append (is_same_text w) us vs
    ∙ or_more (is_among w xs) (is_among w ys) (is_among w us) (is_among w vs) h k (sym (list_any-append (is_same_text w) xs ys) ∙ e)

module _ (w : List ℕ) where
  event_keeps : (e : Event) → (summary_event w e).keeps ≡ not (is_overwriting_of w e)
  event_keeps e = go (is_same_text w e.scalar) e.manner
    where
      go : (same : Bool) (m : Manner) → (if same then of_manner m e.statement else passing).keeps ≡ not (same && is_overwriting m)
      go true reads = refl
      go true assigns = refl
      go true clears = refl
      go false m = refl

  event_ends : (e : Event) → (summary_event w e).ends ≡ false
  event_ends e = go (is_same_text w e.scalar) e.manner
    where
      go : (same : Bool) (m : Manner) → (if same then of_manner m e.statement else passing).ends ≡ false
      go true reads = refl
      go true assigns = refl
      go true clears = refl
      go false m = refl

  -- events leave the scalar as it is where none overwrites it
  pub events_keep : (es : List Event) → (summary_events w es).keeps ≡ not (overwrites w es)
  events_keep [] = refl
  events_keep (e ∷ rest) = (λ i. event_keeps e i && events_keep rest i) ∙ sym (not_or (is_overwriting_of w e) (overwrites w rest))

  events_end : (es : List Event) → (summary_events w es).ends ≡ false
  events_end [] = refl
  events_end (e ∷ rest) = (λ i. event_ends e i || ((summary_event w e).keeps && events_end rest i)) ∙ and_false (summary_event w e).keeps

  pub events_more : (p q : List Event) → (overwrites w q ≡ true → overwrites w p ≡ true) → IsNoMore (summary_events w p) (summary_events w q)
  events_more p q h = record {
    keeps = λ e. events_keep q ∙ not_more (overwrites w p) (overwrites w q) h (sym (events_keep p) ∙ e);
    ends = λ e. untrue (sym (events_end p) ∙ e);
  }

  -- events don't end a path
  pub events_pass : (es : List Event) → IsNoMore (summary_events w es) passing
  events_pass es = record { keeps = λ e. refl; ends = λ e. untrue (sym (events_end es) ∙ e) }

  read_none : (n : ℕ) (xs : List (List ℕ)) → overwrites w (reads_of n xs) ≡ false
  read_none n [] = refl
  read_none n (x ∷ xs) = λ i. and_false (is_same_text w x) i || read_none n xs i

  assign_all : (n : ℕ) (xs : List (List ℕ)) → overwrites w (map (event n assigns) xs) ≡ is_among w xs
  assign_all n [] = refl
  assign_all n (x ∷ xs) = λ i. and_true (is_same_text w x) i || assign_all n xs i

  pub clear_all : (n : ℕ) (xs : List (List ℕ)) → overwrites w (map (event n clears) xs) ≡ is_among w xs
  clear_all n [] = refl
  clear_all n (x ∷ xs) = λ i. and_true (is_same_text w x) i || clear_all n xs i

  append_overwrites : (p q : List Event) → overwrites w (p ++ q) ≡ (overwrites w p || overwrites w q)
  append_overwrites p q = list_any-append (is_overwriting_of w) p q

-- the scalar that a left side, or an item of a READ, assigns
abbrev pub lefts : List (List ℕ) → ExprTree → List (List ℕ)
lefts cs (Var x) = unless_constant cs x
lefts cs (Element x subscripts) = []
lefts cs (Int k) = []
lefts cs (Neg a) = []
lefts cs (Add a b) = []
lefts cs (Sub a b) = []
lefts cs (Mul a b) = []
lefts cs (Div a b) = []
lefts cs (Pow a b) = []
lefts cs (Call f arguments) = []

-- the scalars that a statement by itself assigns
abbrev pub own_lefts : List (List ℕ) → StmtTree → List (List ℕ)
own_lefts cs (Assign left right) = lefts cs left
own_lefts cs (If condition then_part else_part) = []
own_lefts cs (Do h body) = h.variable ∷ []
own_lefts cs (Print items) = []
own_lefts cs (Read items) = flat_map (lefts cs) items
own_lefts cs Stop = []
own_lefts cs (Comment text) = []

-- what the exit of a DO clears before its copies
abbrev pub own_exit : Head → List (List ℕ)
own_exit h = if h.parallel then h.variable ∷ [] else []

module _ (cs : List (List ℕ)) (w : List ℕ) where
  left_overwrites : (n : ℕ) (e : ExprTree) → overwrites w (left_events cs n e) ≡ is_among w (lefts cs e)
  left_overwrites n (Var x) = assign_all w n (unless_constant cs x)
  left_overwrites n (Element x subscripts) = read_none w n (all_scalars_in cs subscripts)
  left_overwrites n (Int k) = refl
  left_overwrites n (Neg a) = refl
  left_overwrites n (Add a b) = refl
  left_overwrites n (Sub a b) = refl
  left_overwrites n (Mul a b) = refl
  left_overwrites n (Div a b) = refl
  left_overwrites n (Pow a b) = refl
  left_overwrites n (Call f arguments) = refl

  items_overwrite : (n : ℕ) (items : List ExprTree) → overwrites w (flat_map (left_events cs n) items) ≡ is_among w (flat_map (lefts cs) items)
  items_overwrite n [] = refl
  items_overwrite n (e ∷ rest) =
      append_overwrites w (left_events cs n e) (flat_map (left_events cs n) rest)
      ∙ (λ i. left_overwrites n e i || items_overwrite n rest i)
      ∙ sym (list_any-append (is_same_text w) (lefts cs e) (flat_map (lefts cs) rest))

  after_reads : (n : ℕ) (xs : List (List ℕ)) (es : List Event) → overwrites w (reads_of n xs ++ es) ≡ overwrites w es
  after_reads n xs es = append_overwrites w (reads_of n xs) es ∙ ap (λ (z : Bool). z || overwrites w es) (read_none w n xs)

  -- a statement by itself overwrites what it assigns, under each number
  pub own_overwrites : (t : StmtTree) (n : ℕ) → overwrites w (own_events cs n t) ≡ is_among w (own_lefts cs t)
  own_overwrites (Assign left right) n = after_reads n (scalars_in cs right) (left_events cs n left) ∙ left_overwrites n left
  own_overwrites (If condition a b) n = read_none w n (scalars_in_cond cs condition)
  own_overwrites (Do h body) n = after_reads n (scalars_in cs h.first ++ scalars_in cs h.last) (event n assigns h.variable ∷ []) ∙ assign_all w n (h.variable ∷ [])
  own_overwrites (Print items) n = read_none w n (flat_map (scalars_in_item cs) items)
  own_overwrites (Read items) n = items_overwrite n items
  own_overwrites Stop n = refl
  own_overwrites (Comment text) n = refl

  pub own_more : (t u : StmtTree) (n m : ℕ) → AreNoMore w (own_lefts cs u) (own_lefts cs t) → IsNoMore (summary_events w (own_events cs n t)) (summary_events w (own_events cs m u))
  own_more t u n m h = events_more w (own_events cs n t) (own_events cs m u) (λ e. own_overwrites t n ∙ h (sym (own_overwrites u m) ∙ e))

  -- one DO clears the scalar wherever another does
  pub record ClearsAll (h g : Head) (body other : StmtTrees) : Type 0 where
    pub variable : h.variable ≡ g.variable
    pub parallel : h.parallel ≡ g.parallel
    pub private : AreNoMore w g.private h.private
    pub loops : AreNoMore w (all_loop_variables other) (all_loop_variables body)

  -- a DO with other statements in its body
  pub same_head_clears : (h : Head) (body other : StmtTrees) → AreNoMore w (all_loop_variables other) (all_loop_variables body) → ClearsAll h h body other
  same_head_clears h body other loops = record { variable = refl; parallel = refl; private = λ e. e; loops = loops }

  when_more : (p : Bool) (xs ys : List (List ℕ)) → AreNoMore w xs ys → AreNoMore w (if p then xs else []) (if p then ys else [])
  when_more true xs ys h = h
  when_more false xs ys h = λ e. e

  pub copied_more : (h g : Head) (body other : StmtTrees) → ClearsAll h g body other → AreNoMore w (copied g other) (copied h body)
  copied_more h g body other c =
      append_more w g.private (if g.parallel then all_loop_variables other else []) h.private (if h.parallel then all_loop_variables body else []) c.private
      (subst (λ (p : Bool). AreNoMore w (if p then all_loop_variables other else []) (if h.parallel then all_loop_variables body else [])) c.parallel
      (when_more h.parallel (all_loop_variables other) (all_loop_variables body) c.loops))

  own_exit_more : (h g : Head) (body other : StmtTrees) → ClearsAll h g body other → AreNoMore w (own_exit g) (own_exit h)
  own_exit_more h g body other c e = ap (is_among w) (λ i. if c.parallel i then c.variable i ∷ [] else []) ∙ e

  pub cleared_more : (n m : ℕ) (xs ys : List (List ℕ)) → AreNoMore w ys xs → IsNoMore (summary_events w (map (event n clears) xs)) (summary_events w (map (event m clears) ys))
  cleared_more n m xs ys h = events_more w (map (event n clears) xs) (map (event m clears) ys) (λ e. clear_all w n xs ∙ h (sym (clear_all w m ys) ∙ e))

  pub loop_more : (h g : Head) (body other : StmtTrees) (n m : ℕ) (a b : Summary) → ClearsAll h g body other → IsNoMore a b → IsNoMore (summary_loop w n h body a) (summary_loop w m g other b)
  loop_more h g body other n m a b c k =
      let copies = copied_more h g body other c in
      let start = cleared_more n m (copied h body) (copied g other) copies in
      in_turn_more (summary_trips (summary_in_turn (summary_events w (start_events n h body)) a)) (summary_events w (exit_events n h body)) (summary_trips (summary_in_turn (summary_events w (start_events m g other)) b)) (summary_events w (exit_events m g other))
      (trips_more (summary_in_turn (summary_events w (start_events n h body)) a) (summary_in_turn (summary_events w (start_events m g other)) b)
      (in_turn_more (summary_events w (start_events n h body)) a (summary_events w (start_events m g other)) b start k))
      (cleared_more n m (own_exit h ++ copied h body) (own_exit g ++ copied g other) (append_more w (own_exit g) (copied g other) (own_exit h) (copied h body) (own_exit_more h g body other c) copies))

  pub do_more : (h g : Head) (body other : StmtTrees) (n m : ℕ) → ClearsAll h g body other → IsNoMore (summary_of_all cs w body (n + 1)) (summary_of_all cs w other (m + 1)) → IsNoMore (summary_of cs w (Do h body) n) (summary_of cs w (Do g other) m)
  do_more h g body other n m c k =
      in_turn_more (summary_events w (own_events cs n (Do h body))) (summary_loop w n h body (summary_of_all cs w body (n + 1))) (summary_events w (own_events cs m (Do g other))) (summary_loop w m g other (summary_of_all cs w other (m + 1)))
      (own_more (Do h body) (Do g other) n m (λ e. ap (λ (v : List ℕ). is_among w (v ∷ [])) c.variable ∙ e))
      (loop_more h g body other n m (summary_of_all cs w body (n + 1)) (summary_of_all cs w other (m + 1)) c k)

  -- an IF with the same condition
  pub if_more : (a b c d : StmtTrees) (t u : StmtTree) (n m i j k l : ℕ) → AreNoMore w (own_lefts cs u) (own_lefts cs t)
      → IsNoMore (summary_of_all cs w a i) (summary_of_all cs w c k) → IsNoMore (summary_of_all cs w b j) (summary_of_all cs w d l)
      → IsNoMore (summary_in_turn (summary_events w (own_events cs n t)) (summary_either (summary_of_all cs w a i) (summary_of_all cs w b j))) (summary_in_turn (summary_events w (own_events cs m u)) (summary_either (summary_of_all cs w c k) (summary_of_all cs w d l)))
  if_more a b c d t u n m i j k l own first second =
      in_turn_more (summary_events w (own_events cs n t)) (summary_either (summary_of_all cs w a i) (summary_of_all cs w b j)) (summary_events w (own_events cs m u)) (summary_either (summary_of_all cs w c k) (summary_of_all cs w d l))
      (own_more t u n m own) (either_more (summary_of_all cs w a i) (summary_of_all cs w b j) (summary_of_all cs w c k) (summary_of_all cs w d l) first second)

  -- statements one behind the other
  pub more_more : (t u : StmtTree) (rest others : StmtTrees) (n m i j : ℕ) → IsNoMore (summary_of cs w t n) (summary_of cs w u m) → IsNoMore (summary_of_all cs w rest i) (summary_of_all cs w others j)
      → IsNoMore (summary_in_turn (summary_of cs w t n) (summary_of_all cs w rest i)) (summary_in_turn (summary_of cs w u m) (summary_of_all cs w others j))
  more_more t u rest others n m i j = in_turn_more (summary_of cs w t n) (summary_of_all cs w rest i) (summary_of cs w u m) (summary_of_all cs w others j)

  -- under another number a statement does the same
  mutual
    pub any_number : (t : StmtTree) (n m : ℕ) → IsNoMore (summary_of cs w t n) (summary_of cs w t m)
    any_number (Assign left right) n m = own_more (Assign left right) (Assign left right) n m (λ e. e)
    any_number (If c a b) n m =
        if_more a b a b (If c a b) (If c a b) n m (n + 1) (n + 1 + statements_count a) (m + 1) (m + 1 + statements_count a) (λ e. e)
        (any_numbers a (n + 1) (m + 1)) (any_numbers b (n + 1 + statements_count a) (m + 1 + statements_count a))
    any_number (Do h body) n m = do_more h h body body n m (same_head_clears h body body (λ e. e)) (any_numbers body (n + 1) (m + 1))
    any_number (Print items) n m = own_more (Print items) (Print items) n m (λ e. e)
    any_number (Read items) n m = own_more (Read items) (Read items) n m (λ e. e)
    any_number Stop n m = no_more (summary_of cs w Stop n)
    any_number (Comment text) n m = no_more passing

    pub any_numbers : (ts : StmtTrees) (n m : ℕ) → IsNoMore (summary_of_all cs w ts n) (summary_of_all cs w ts m)
    any_numbers no_stmts n m = no_more passing
    any_numbers (more_stmts t rest) n m = more_more t t rest rest n m (n + statement_count t) (m + statement_count t) (any_number t n m) (any_numbers rest (n + statement_count t) (m + statement_count t))
