-- How summaries are put together, and those of events in order.
use Rattle.std.proofs.Common.{◌≡◌, ℕ, Bool, true, false, ◌&&◌, ◌||◌, List, [], ◌∷◌, ◌++◌, map, Option, Some, None, refl, sym, ap, ◌∙◌, arith, if◌then◌else◌}
use Rattle.ped_base.specs.Lists.{is_same_text, is_among}
use Rattle.ped_flow.specs.Events.{Event, reads, assigns, clears, event, reads_of}
use Rattle.ped_flow.specs.Summaries.{least_of, when, passing, unreached, of_manner, summary_in_turn, summary_either, summary_event, summary_events}
use Rattle.ped_flow.specs.declared.summaries.Summary.{Summary}

pub least-none : (a : Option ℕ) → least_of a None ≡ a
least-none None = refl
least-none (Some a) = refl

pub least-assoc : (a b c : Option ℕ) → least_of (least_of a b) c ≡ least_of a (least_of b c)
least-assoc None b c = refl
least-assoc (Some a) None c = refl
least-assoc (Some a) (Some b) None = refl
least-assoc (Some a) (Some b) (Some c) = ap Some (omega arith)

and-assoc : (a b c : Bool) → ((a && b) && c) ≡ (a && (b && c))
and-assoc true b c = refl
and-assoc false b c = refl

or-assoc : (a b c : Bool) → ((a || b) || c) ≡ (a || (b || c))
or-assoc true b c = refl
or-assoc false b c = refl

and-or : (a b c : Bool) → (a && (b || c)) ≡ ((a && b) || (a && c))
and-or true b c = refl
and-or false b c = refl

or-false : (a : Bool) → (a || false) ≡ a
or-false true = refl
or-false false = refl

and-false : (a : Bool) → (a && false) ≡ false
and-false true = refl
and-false false = refl

and-true : (a : Bool) → (a && true) ≡ a
and-true true = refl
and-true false = refl

or-and : (a b c : Bool) → ((a || b) && c) ≡ ((a && c) || (b && c))
or-and true b true = refl
or-and true b false = sym (and-false b)
or-and false b c = refl

first-assoc : (k l : Bool) (a b c : Option ℕ) → least_of (least_of a (when k b)) (when (k && l) c) ≡ least_of a (when k (least_of b (when l c)))
first-assoc true l a b c = least-assoc a b (when l c)
first-assoc false l a b c = least-none (least_of a None)

ends-assoc : (ea ka eb kb ec : Bool) → ((ea || (ka && eb)) || ((ka && kb) && ec)) ≡ (ea || (ka && (eb || (kb && ec))))
ends-assoc true ka eb kb ec = refl
ends-assoc false true eb kb ec = refl
ends-assoc false false eb kb ec = refl

loses-assoc : (al pa bk bl bp ck cl : Bool) → ((((al && bk) || (pa && bl)) && ck) || ((pa && bp) && cl)) ≡ ((al && (bk && ck)) || (pa && ((bl && ck) || (bp && cl))))
loses-assoc al pa bk bl bp ck cl =
    ap (λ (z : Bool). z || ((pa && bp) && cl)) (or-and (al && bk) (pa && bl) ck)
    ∙ or-assoc ((al && bk) && ck) ((pa && bl) && ck) ((pa && bp) && cl)
    ∙ (λ i. and-assoc al bk ck i || (and-assoc pa bl ck i || and-assoc pa bp cl i))
    ∙ ap (λ (z : Bool). (al && (bk && ck)) || z) (sym (and-or pa (bl && ck) (bp && cl)))

pub in_turn-assoc : (a b c : Summary) → summary_in_turn (summary_in_turn a b) c ≡ summary_in_turn a (summary_in_turn b c)
in_turn-assoc a b c = λ i. record {
  first = first-assoc a.keeps b.keeps a.first b.first c.first i;
  keeps = and-assoc a.keeps b.keeps c.keeps i;
  ends = ends-assoc a.ends a.keeps b.ends b.keeps c.ends i;
  passes = and-assoc a.passes b.passes c.passes i;
  loses = loses-assoc a.loses a.passes b.keeps b.loses b.passes c.keeps c.loses i;
}

when-none : (k : Bool) → when k None ≡ None
when-none true = refl
when-none false = refl

pub in_turn-passing : (a : Summary) → summary_in_turn a passing ≡ a
in_turn-passing a = λ i. record {
  first = (ap (least_of a.first) (when-none a.keeps) ∙ least-none a.first) i;
  keeps = and-true a.keeps i;
  ends = (ap (λ (z : Bool). a.ends || z) (and-false a.keeps) ∙ or-false a.ends) i;
  passes = and-true a.passes i;
  loses = ((λ j. and-true a.loses j || and-false a.passes j) ∙ or-false a.loses) i;
}

pub either-assoc : (a b c : Summary) → summary_either (summary_either a b) c ≡ summary_either a (summary_either b c)
either-assoc a b c = λ i. record {
  first = least-assoc a.first b.first c.first i;
  keeps = or-assoc a.keeps b.keeps c.keeps i;
  ends = or-assoc a.ends b.ends c.ends i;
  passes = or-assoc a.passes b.passes c.passes i;
  loses = or-assoc a.loses b.loses c.loses i;
}

pub either-unreached : (a : Summary) → summary_either a unreached ≡ a
either-unreached a = λ i. record {
  first = least-none a.first i;
  keeps = or-false a.keeps i;
  ends = or-false a.ends i;
  passes = or-false a.passes i;
  loses = or-false a.loses i;
}

both-first : (a b c : Option ℕ) → least_of (least_of a b) c ≡ least_of (least_of a c) (least_of b c)
both-first None b None = refl
both-first None None (Some c) = ap Some (omega arith)
both-first None (Some b) (Some c) = ap Some (omega arith)
both-first (Some a) None None = refl
both-first (Some a) None (Some c) = ap Some (omega arith)
both-first (Some a) (Some b) None = refl
both-first (Some a) (Some b) (Some c) = ap Some (omega arith)

left-first : (a b c : Option ℕ) → least_of (least_of a b) c ≡ least_of (least_of a c) b
left-first None None c = sym (least-none c)
left-first None (Some b) None = refl
left-first None (Some b) (Some c) = ap Some (omega arith)
left-first (Some a) None c = sym (least-none (least_of (Some a) c))
left-first (Some a) (Some b) None = refl
left-first (Some a) (Some b) (Some c) = ap Some (omega arith)

either-first : (k l : Bool) (a b c : Option ℕ) → least_of (least_of a b) (when (k || l) c) ≡ least_of (least_of a (when k c)) (least_of b (when l c))
either-first true true a b c = both-first a b c
either-first true false a b c = left-first a b c ∙ ap (least_of (least_of a c)) (sym (least-none b))
either-first false true a b c = least-assoc a b c ∙ ap (λ (z : Option ℕ). least_of z (least_of b c)) (sym (least-none a))
either-first false false a b c = least-none (least_of a b) ∙ (λ i. least_of (sym (least-none a) i) (sym (least-none b) i))

swap : (a b c d : Bool) → ((a || b) || (c || d)) ≡ ((a || c) || (b || d))
swap true b c d = refl
swap false true true d = refl
swap false true false d = refl
swap false false c d = refl

pub either-in_turn : (a b c : Summary) → summary_in_turn (summary_either a b) c ≡ summary_either (summary_in_turn a c) (summary_in_turn b c)
either-in_turn a b c = λ i. record {
  first = either-first a.keeps b.keeps a.first b.first c.first i;
  keeps = or-and a.keeps b.keeps c.keeps i;
  ends = (ap (λ (z : Bool). (a.ends || b.ends) || z) (or-and a.keeps b.keeps c.ends) ∙ swap a.ends b.ends (a.keeps && c.ends) (b.keeps && c.ends)) i;
  passes = or-and a.passes b.passes c.passes i;
  loses = ((λ j. or-and a.loses b.loses c.keeps j || or-and a.passes b.passes c.loses j) ∙ swap (a.loses && c.keeps) (b.loses && c.keeps) (a.passes && c.loses) (b.passes && c.loses)) i;
}

once-first : (a b c : Option ℕ) → least_of a (least_of b c) ≡ least_of (least_of a b) (least_of a c)
once-first None b c = refl
once-first (Some a) None None = ap Some (omega arith)
once-first (Some a) None (Some c) = ap Some (omega arith)
once-first (Some a) (Some b) None = ap Some (omega arith)
once-first (Some a) (Some b) (Some c) = ap Some (omega arith)

twice : (a : Option ℕ) → least_of a None ≡ least_of (least_of a None) (least_of a None)
twice None = refl
twice (Some a) = ap Some (omega arith)

in_turn-first : (k : Bool) (a b c : Option ℕ) → least_of a (when k (least_of b c)) ≡ least_of (least_of a (when k b)) (least_of a (when k c))
in_turn-first true a b c = once-first a b c
in_turn-first false a b c = twice a

in_turn-ends : (e k b c : Bool) → (e || (k && (b || c))) ≡ ((e || (k && b)) || (e || (k && c)))
in_turn-ends true k b c = refl
in_turn-ends false true b c = refl
in_turn-ends false false b c = refl

pub in_turn-either : (a b c : Summary) → summary_in_turn a (summary_either b c) ≡ summary_either (summary_in_turn a b) (summary_in_turn a c)
in_turn-either a b c = λ i. record {
  first = in_turn-first a.keeps a.first b.first c.first i;
  keeps = and-or a.keeps b.keeps c.keeps i;
  ends = in_turn-ends a.ends a.keeps b.ends c.ends i;
  passes = and-or a.passes b.passes c.passes i;
  loses = ((λ j. and-or a.loses b.keeps c.keeps j || and-or a.passes b.loses c.loses j) ∙ swap (a.loses && b.keeps) (a.loses && c.keeps) (a.passes && b.loses) (a.passes && c.loses)) i;
}

-- events and then others
pub events-append : (x : List ℕ) (p q : List Event) → summary_events x (p ++ q) ≡ summary_in_turn (summary_events x p) (summary_events x q)
events-append x [] q = refl
events-append x (e ∷ p) q = ap (summary_in_turn (summary_event x e)) (events-append x p q) ∙ sym (in_turn-assoc (summary_event x e) (summary_events x p) (summary_events x q))

pub events_of-append : (f : List ℕ → Event) (xs ys : List (List ℕ)) → map f (xs ++ ys) ≡ map f xs ++ map f ys
events_of-append f [] ys = refl
events_of-append f (x ∷ xs) ys = ap (λ (z : List Event). f x ∷ z) (events_of-append f xs ys)

-- reads and then others
pub reads-append : (x : List ℕ) (n : ℕ) (xs ys : List (List ℕ)) → summary_events x (reads_of n (xs ++ ys)) ≡ summary_in_turn (summary_events x (reads_of n xs)) (summary_events x (reads_of n ys))
reads-append x n xs ys = ap (summary_events x) (events_of-append (event n reads) xs ys) ∙ events-append x (reads_of n xs) (reads_of n ys)

-- one event, of the scalar or not
pub one-event : (x : List ℕ) (e : Event) → summary_events x (e ∷ []) ≡ (if is_same_text x e.scalar then of_manner e.manner e.statement else passing)
one-event x e = in_turn-passing (summary_event x e)

cleared-more : (same among : Bool) (n : ℕ) → summary_in_turn (if same then of_manner clears n else passing) (if among then of_manner clears 0 else passing) ≡ (if same || among then of_manner clears 0 else passing)
cleared-more true true n = refl
cleared-more true false n = refl
cleared-more false true n = refl
cleared-more false false n = refl

-- scalars are cleared
pub cleared : (x : List ℕ) (n : ℕ) (names : List (List ℕ)) → summary_events x (map (event n clears) names) ≡ (if is_among x names then of_manner clears 0 else passing)
cleared x n [] = refl
cleared x n (y ∷ ys) = ap (summary_in_turn (summary_event x (event n clears y))) (cleared x n ys) ∙ cleared-more (is_same_text x y) (is_among x ys) n

-- a list of at most one name
read-one : (r c : Bool) (x y : List ℕ) (n : ℕ) → is_same_text x y ≡ r → summary_events x (reads_of n (if c then [] else y ∷ [])) ≡ (if is_among x (if c then [] else y ∷ []) then of_manner reads n else passing)
read-one r true x y n h = refl
read-one true false x y n h = one-event x (event n reads y) ∙ (λ i. if h i then of_manner reads n else passing) ∙ (λ i. if sym h i || false then of_manner reads n else passing)
read-one false false x y n h = one-event x (event n reads y) ∙ (λ i. if h i then of_manner reads n else passing) ∙ (λ i. if sym h i || false then of_manner reads n else passing)

pub read-unless : (x y : List ℕ) (c : Bool) (n : ℕ) → summary_events x (reads_of n (if c then [] else y ∷ [])) ≡ (if is_among x (if c then [] else y ∷ []) then of_manner reads n else passing)
read-unless x y c n = read-one (is_same_text x y) c x y n refl

assign-one : (r c : Bool) (x y : List ℕ) (n : ℕ) → is_same_text x y ≡ r → summary_events x (map (event n assigns) (if c then [] else y ∷ [])) ≡ (if is_among x (if c then [] else y ∷ []) then of_manner assigns 0 else passing)
assign-one r true x y n h = refl
assign-one true false x y n h = one-event x (event n assigns y) ∙ (λ i. if h i then of_manner assigns 0 else passing) ∙ (λ i. if sym h i || false then of_manner assigns 0 else passing)
assign-one false false x y n h = one-event x (event n assigns y) ∙ (λ i. if h i then of_manner assigns 0 else passing) ∙ (λ i. if sym h i || false then of_manner assigns 0 else passing)

pub assign-unless : (x y : List ℕ) (c : Bool) (n : ℕ) → summary_events x (map (event n assigns) (if c then [] else y ∷ [])) ≡ (if is_among x (if c then [] else y ∷ []) then of_manner assigns 0 else passing)
assign-unless x y c n = assign-one (is_same_text x y) c x y n refl

pub ruleset summing = (reads-append, events-append, in_turn-assoc, in_turn-passing)
