-- READ on both sides: the same data go into cells and into the renamed cells.
use Rattle.std.proofs.Common.{◌≡◌, ℕ, suc, ℤ, Bool, true, List, [], ◌∷◌, ◌++◌, map, Option, Some, None, Result, Ok, Err, refl, sym, ap, ◌∙◌, subst, ◌⊎◌, inl, inr, append_assoc}
use Rattle.std.specs.List.{flat_map}
use Rattle.ped_tree.specs.Tree.{ExprTree}
use Rattle.ped_tree.specs.NamesIn.{expr_names}
use Rattle.ped_calls.specs.ped_units.specs.Expanding.{Meanings, replaced}
use Rattle.ped_calls.specs.ped_units.specs.Linking.{assigned_left}
use Rattle.ped_steps.specs.ped_store.specs.Cells.{Cell, In, same_cell}
use Rattle.ped_steps.specs.ped_store.specs.Stores.{Number, Lines, Store, put, lines_in, undefined_read}
use Rattle.ped_steps.specs.ped_store.specs.Acts.{Touch, Place, faulted, store_behind}
use Rattle.ped_steps.specs.ped_store.specs.DataLines.{Data, begun, Taken, next_value_of}
use Rattle.ped_steps.specs.ped_eval.specs.Scopes.{Names}
use Rattle.ped_steps.specs.ped_eval.specs.Evaluation.{Seen, numbered, number_behind}
use Rattle.ped_steps.specs.ped_eval.specs.Values.{target}
use Rattle.ped_steps.specs.ped_eval.specs.Statements.{read_touch, write_touch, Taking, into_item, with_taken, taking, taking_from, reading, reading_touches}
use Rattle.ped_steps.specs.ped_eval.specs.Runs.{failed, run_taking, run_read}
use Rattle.ped_steps.specs.ped_eval.proofs.Endings.{reads_leave, read_fails, read_goes}
use Rattle.ped_steps.specs.ped_laws.proofs.ActLaws.Stores.{behind_append}
use Rattle.ped_call_runs.specs.UnitFaults.{ReadsOwnLast, FaultsInOwn}
use Rattle.ped_call_runs.proofs.EachNames.{Each, each_front, each_behind}
use Rattle.ped_call_runs.proofs.EachElements.{TargetsElements}
use Rattle.ped_call_runs.proofs.FollowingValues.{SeesOwn, follows_ok, follows_err, ReadsAlike, ElementAlike, StoresAlike, target_follows, target_may}
use Rattle.ped_call_runs.proofs.FollowingStores.{Bond, tight, Agrees, IsBelow, is_bound, put_below}
use Rattle.ped_call_runs.proofs.FollowingEndings.{RunAlike, goes_alike, fault_alike, touches_own}

-- touches end with a read of an undefined variable of a CALL's own
abbrev pub TouchesOwn : ℕ → List Touch → Type 0
TouchesOwn n touches = (n ≡ undefined_read) × ReadsOwnLast touches

own_touched : (n : ℕ) (before touches : List Touch) → TouchesOwn n touches → TouchesOwn n (before ++ touches)
own_touched n before touches h = (
  h.0,
  record {
    before = before ++ h.1.before;
    touch = h.1.touch;
    last = ap (λ (ts : List Touch). before ++ ts) h.1.last ∙ sym (append_assoc before h.1.before (h.1.touch ∷ []));
    manner = h.1.manner;
    content = h.1.content;
    call = h.1.call;
    own = h.1.own;
  },
)

abbrev number_or : ℕ → Option ℕ → ℕ
number_or d None = d
number_or d (Some n) = n

same_some : (m n : ℕ) → Some m ≡ Some n → m ≡ n
same_some m n h = ap (number_or m) h

-- where the first taking meets no fault, neither does the second; it leaves the same data, and stores go alike behind what was touched. Where it meets one, so does the second, but for a read of an undefined variable of a CALL's own
pub record TakesAlike (R : Store → Store → Type 0) (t u : Taking) : Type 0 where
  pub fault : t.fault ≡ None → u.fault ≡ None
  pub left : t.fault ≡ None → u.left ≡ t.left
  pub behind : t.fault ≡ None → (s w : Store) → R s w → R (store_behind t.touches s) (store_behind u.touches w)
  pub fails : (n : ℕ) → t.fault ≡ Some n → TouchesOwn n t.touches ⊎ (u.fault ≡ Some n)

-- the store behind an item that is stored, and behind those that follow
item_behind : (n i : ℕ) (seen : List Seen) (c : Cell) (v : ℤ) (ts : List Touch) (s : Store)
    → store_behind ((numbered n seen ++ write_touch c (Number v) i ∷ []) ++ ts) s ≡ store_behind ts (put c (Number v) s)
item_behind n i seen c v ts s =
    behind_append (numbered n seen ++ write_touch c (Number v) i ∷ []) ts s
    ∙ ap (λ (u : Store). store_behind ts u) (reads_leave seen n (write_touch c (Number v) i ∷ []) s)

module _ (bond : Cell → Bond) (name : Cell → Cell) (same_test : (c d : Cell) → same_cell (name c) (name d) ≡ same_cell c d) (g other : Names) (m k : Meanings) where
  abbrev Below : Store → Store → Type 0
  Below s w = IsBelow bond name s w

  abbrev May : Cell → Bool
  May c = is_bound (bond c)

  -- what follows an item
  abbrev next : List ExprTree → Store → ℤ → Data → ℕ → Cell → Taking
  next rest s v left a c = taking g (map (replaced m) rest) a left (put c (Number v) s)

  abbrev following : List ExprTree → Store → ℤ → Data → ℕ → Cell → Taking
  following rest w v left a c = taking other (map (replaced k) rest) a left (put c (Number v) w)

  -- what came of the items
  abbrev taken : List ExprTree → Store → Taking
  taken items s = reading g (map (replaced m) items) s

  abbrev other_taken : List ExprTree → Store → List (List ℕ) → Taking
  other_taken items w ls = taking_from other (map (replaced k) items) (begun ls) w

  -- an item that is stored on both sides
  into_alike : (n i : ℕ) (left : Data) (v : ℤ) (seen others : List Seen) (c : Cell) (t u : Taking) → May c ≡ true → TakesAlike Below t u
      → TakesAlike Below (into_item n left v seen (Ok c) (λ a b. t)) (into_item i left v others (Ok (name c)) (λ a b. u))
  into_alike n i left v seen others c t u may alike = record {
    fault = alike.fault;
    left = alike.left;
    behind = λ e s w below.
        subst (λ (x : Store). Below x (store_behind ((numbered i others ++ write_touch (name c) (Number v) (number_behind i others) ∷ []) ++ u.touches) w)) (sym (item_behind n (number_behind n seen) seen c v t.touches s))
        (subst (λ (x : Store). Below (store_behind t.touches (put c (Number v) s)) x) (sym (item_behind i (number_behind i others) others (name c) v u.touches w))
        (alike.behind e (put c (Number v) s) (put (name c) (Number v) w) (put_below bond name same_test c (Number v) s w may below)));
    fails = λ m e. behind_write m (alike.fails m e);
  }
    where
      behind_write : (m : ℕ) → TouchesOwn m t.touches ⊎ (u.fault ≡ Some m) → TouchesOwn m ((numbered n seen ++ write_touch c (Number v) (number_behind n seen) ∷ []) ++ t.touches) ⊎ (u.fault ≡ Some m)
      behind_write m (inl own) = inl (own_touched m (numbered n seen ++ write_touch c (Number v) (number_behind n seen) ∷ []) t.touches own)
      behind_write m (inr e) = inr e

  taking_alike : (items : List ExprTree) → ((s w : Store) → Below s w → Each (ReadsAlike g other s w m k) (flat_map expr_names items)) → ((s w : Store) → Below s w → TargetsElements (ElementAlike g other s w m k) items) → ((s w : Store) → Below s w → Each (StoresAlike name May g other s w m k) (flat_map assigned_left items))
      → (n i : ℕ) (d : Data) (s w : Store) → Below s w → TakesAlike Below (taking g (map (replaced m) items) n d s) (taking other (map (replaced k) items) i d w)
  taking_alike [] reads elements stores n i d s w below = record { fault = λ e. refl; left = λ e. refl; behind = λ e u v r. r; fails = λ m e. absurd cc }
  taking_alike (item ∷ rest) reads elements stores n i d s w below = by_value (next_value_of d) (λ x y left h a z. taking_alike rest (λ x y h. each_behind (ReadsAlike g other x y m k) (expr_names item) (flat_map expr_names rest) (reads x y h)) (λ x y h. (elements x y h).1) (λ x y h. each_behind (StoresAlike name May g other x y m k) (assigned_left item) (flat_map assigned_left rest) (stores x y h)) a z left x y h)
    where
      by_cell : (v : ℤ) (left : Data) (r : Result Cell ℕ) → (target g (replaced m item) s).result ≡ r → ((x y : Store) (left : Data) → Below x y → (a z : ℕ) → TakesAlike Below (taking g (map (replaced m) rest) a left x) (taking other (map (replaced k) rest) z left y))
          → TakesAlike Below (into_item n left v (target g (replaced m item) s).seen r (next rest s v left)) (into_item i left v (target other (replaced k item) w).seen (target other (replaced k item) w).result (following rest w v left))
      by_cell v left (Err fault) e more =
          let reads_here = each_front (ReadsAlike g other s w m k) (expr_names item) (flat_map expr_names rest) (reads s w below) in
          let stores_here = each_front (StoresAlike name May g other s w m k) (assigned_left item) (flat_map assigned_left rest) (stores s w below) in
          let follows = target_follows g other s w m k name May item reads_here (elements s w below).0 stores_here in
          record {
            fault = λ h. absurd cc;
            left = λ h. absurd cc;
            behind = λ h. absurd cc;
            fails = λ z h. by_fault z h (follows_err name (target g (replaced m item) s) (target other (replaced k item) w) follows fault e);
          }
        where
          by_fault : (z : ℕ) → Some fault ≡ Some z → SeesOwn fault (target g (replaced m item) s).seen ⊎ ((target other (replaced k item) w).result ≡ Err fault)
              → TouchesOwn z (numbered n (target g (replaced m item) s).seen) ⊎ ((into_item i left v (target other (replaced k item) w).seen (target other (replaced k item) w).result (following rest w v left)).fault ≡ Some z)
          by_fault z h (inl own) = inl (sym (same_some fault z h) ∙ own.fault, touches_own n fault (target g (replaced m item) s).seen own)
          by_fault z h (inr d) = inr (ap (λ (r : Result Cell ℕ). (into_item i left v (target other (replaced k item) w).seen r (following rest w v left)).fault) d ∙ h)
      by_cell v left (Ok c) e more =
          let reads_here = each_front (ReadsAlike g other s w m k) (expr_names item) (flat_map expr_names rest) (reads s w below) in
          let stores_here = each_front (StoresAlike name May g other s w m k) (assigned_left item) (flat_map assigned_left rest) (stores s w below) in
          let found : (target other (replaced k item) w).result ≡ Ok (name c) =
          follows_ok name (target g (replaced m item) s) (target other (replaced k item) w) (target_follows g other s w m k name May item reads_here (elements s w below).0 stores_here) c e in
          let may : May c ≡ true = target_may g other s w m k name May item stores_here c e in
          let seen = (target g (replaced m item) s).seen in
          let others = (target other (replaced k item) w).seen in
          let a : ℕ = suc (number_behind n seen) in
          let z : ℕ = suc (number_behind i others) in
          subst (λ (r : Result Cell ℕ). TakesAlike Below (into_item n left v seen (Ok c) (next rest s v left)) (into_item i left v others r (following rest w v left))) (sym found)
          (into_alike n i left v seen others c (next rest s v left a c) (following rest w v left z (name c)) may
          (more (put c (Number v) s) (put (name c) (Number v) w) left (put_below bond name same_test c (Number v) s w may below) a z))

      by_value : (r : Result Taken ℕ) → ((x y : Store) (left : Data) → Below x y → (a z : ℕ) → TakesAlike Below (taking g (map (replaced m) rest) a left x) (taking other (map (replaced k) rest) z left y))
          → TakesAlike Below (with_taken d r (λ v left. into_item n left v (target g (replaced m item) s).seen (target g (replaced m item) s).result (next rest s v left)))
          (with_taken d r (λ v left. into_item i left v (target other (replaced k item) w).seen (target other (replaced k item) w).result (following rest w v left)))
      by_value (Err fault) more = record { fault = λ h. absurd cc; left = λ h. absurd cc; behind = λ h. absurd cc; fails = λ z h. inr h }
      by_value (Ok t) more = by_cell t.value t.behind (target g (replaced m item) s).result refl more

  module _ (input : name In ≡ In) (input_tight : bond In ≡ tight) where
    same_input : (s w : Store) → Below s w → w In ≡ s In
    same_input s w below = subst (λ (c : Cell). w c ≡ s In) input (subst (λ (b : Bond). Agrees In b (s In) (w (name In))) input_tight (below In))

    pub input_below : (ls : List (List ℕ)) (s w : Store) → Below s w → Below (put In (Lines ls) s) (put In (Lines ls) w)
    input_below ls s w below =
        subst (λ (c : Cell). Below (put In (Lines ls) s) (put c (Lines ls) w)) input (put_below bond name same_test In (Lines ls) s w (ap is_bound input_tight) below)

    from_alike : (items : List ExprTree) → ((s w : Store) → Below s w → Each (ReadsAlike g other s w m k) (flat_map expr_names items)) → ((s w : Store) → Below s w → TargetsElements (ElementAlike g other s w m k) items) → ((s w : Store) → Below s w → Each (StoresAlike name May g other s w m k) (flat_map assigned_left items))
        → (r : Result Data ℕ) (s w : Store) → Below s w → TakesAlike Below (taking_from g (map (replaced m) items) r s) (taking_from other (map (replaced k) items) r w)
    from_alike items reads elements stores (Ok d) s w below = taking_alike items reads elements stores 2 2 d s w below
    from_alike items reads elements stores (Err fault) s w below = record { fault = λ h. absurd cc; left = λ h. absurd cc; behind = λ h. absurd cc; fails = λ z h. inr h }

    pub read_alike : (at place : Place) (items : List ExprTree) → ((s w : Store) → Below s w → Each (ReadsAlike g other s w m k) (flat_map expr_names items)) → ((s w : Store) → Below s w → TargetsElements (ElementAlike g other s w m k) items)
        → ((s w : Store) → Below s w → Each (StoresAlike name May g other s w m k) (flat_map assigned_left items))
        → (s w : Store) → place.statement ≡ at.statement → Below s w → RunAlike Below (run_read g at (map (replaced m) items) s) (run_read other place (map (replaced k) items) w).ending
    read_alike at place items reads elements stores s w number below =
        subst (λ (ls : List (List ℕ)). RunAlike Below (run_taking at (taken items s) (taken items s).fault s) (run_taking place (other_taken items w ls) (other_taken items w ls).fault w).ending) (ap lines_in (sym (same_input s w below)))
        (go (taken items s).fault refl)
      where
        alike : TakesAlike Below (taken items s) (other_taken items w (lines_in (s In)))
        alike = from_alike items reads elements stores (begun (lines_in (s In))) s w below

        t : Taking
        t = taken items s

        u : Taking
        u = other_taken items w (lines_in (s In))

        by_fault : (n : ℕ) → t.fault ≡ Some n → TouchesOwn n t.touches ⊎ (u.fault ≡ Some n) → RunAlike Below (run_taking at t t.fault s) (run_taking place u u.fault w).ending
        by_fault n e (inl own) =
            let before : List Touch = read_touch In (s In) 0 ∷ write_touch In (Lines t.left.lines) 1 ∷ [] in
            inr (subst (λ (o : Option ℕ). FaultsInOwn (run_taking at t o s)) (sym e) (record {
              statement = at.statement;
              ending = ap (λ (z : ℕ). failed z at.statement) own.0;
              before = [];
              act = record { step = faulted; place = at; touches = reading_touches t s };
              last = refl;
              touches = (own_touched n before t.touches own).1;
            }))
        by_fault n e (inr d) = fault_alike Below (run_taking at t t.fault s) (run_taking place u u.fault w).ending n at.statement (read_fails g at t s n e) (read_fails other place u w n d ∙ ap (failed n) number)

        go : (o : Option ℕ) → t.fault ≡ o → RunAlike Below (run_taking at t t.fault s) (run_taking place u u.fault w).ending
        go None e =
            goes_alike Below (run_taking at t t.fault s) (run_taking place u u.fault w).ending
            (store_behind t.touches (put In (Lines t.left.lines) s)) (store_behind u.touches (put In (Lines u.left.lines) w))
            (read_goes at t s e) (read_goes place u w (alike.fault e))
            (subst (λ (l : Data). Below (store_behind t.touches (put In (Lines t.left.lines) s)) (store_behind u.touches (put In (Lines l.lines) w))) (sym (alike.left e))
            (alike.behind e (put In (Lines t.left.lines) s) (put In (Lines t.left.lines) w) (input_below t.left.lines s w below)))
        go (Some n) e = by_fault n e (alike.fails n e)
