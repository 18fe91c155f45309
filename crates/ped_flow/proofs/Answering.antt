-- From what the paths do to a scalar to the answers.
use Rattle.std.proofs.Common.{◌≡◌, ℕ, ◌+◌, ◌-◌, ◌≤◌, ◌<◌, Bool, true, false, not, ◌&&◌, ◌||◌, ◌==◌, ◌⊎◌, ◌↔◌, IsTrue, List, [], ◌∷◌, ◌++◌, length, Option, Some, None, refl, sym, ap, ◌∙◌, subst, inl, inr, if◌then◌else◌, arith, eqb-true, nat_lt}
use Rattle.std.specs.List.{flat_map}
use Rattle.ped_base.specs.Lists.{is_among}
use Rattle.ped_tree.specs.Tree.{Head, StmtTree, StmtTrees, Assign, If, Do, Print, Read, Stop, Comment, no_stmts, more_stmts, ProgramTree}
use Rattle.ped_tree.specs.Numbering.{numbered, all_numbered, at_place, statement_count, statements_count}
use Rattle.ped_tree.specs.Accesses.{constant_names}
use Rattle.ped_tree.proofs.Numbers.{at_place-back, length-numbered, length-all_numbered}
use Rattle.ped_flow.specs.Events.{Event, start_events, overwrites, has_value}
use Rattle.ped_flow.specs.PathSets.{Kind, Whole}
use Rattle.ped_flow.specs.Paths.{iteration, all_paths, paths_from_exit, paths_to_outermost}
use Rattle.ped_flow.specs.Questions.{IsLoop, IsFirst, IsExposed, IsReadBehind, IsLiveAfter, IsAssignedOn, IsAssignedThrough, IsAssignedBefore}
use Rattle.ped_tree.specs.NamesIn.{saved_in}
use Rattle.ped_flow.specs.Answers.{IsReader}
use Rattle.ped_flow.specs.Summaries.{AreOnward, AreSummed, IsReadOn, summary_in_turn, summary_events, summary_of_all, summary_behind_all, summary_before_all}
use Rattle.ped_flow.specs.Kept.{reader_by, reader_else}
use Rattle.ped_flow.specs.declared.flows.Reader.{Reader}
use Rattle.ped_flow.specs.declared.summaries.Summary.{Summary}
use Rattle.ped_flow.proofs.Truths.{untrue, and_split, or_iff}
use Rattle.ped_flow.proofs.EventLaws.{has_value-kept, has_value-lost, has_value-none}
use Rattle.ped_flow.proofs.FirstLaws.{first_map}
use Rattle.ped_flow.proofs.TreeSummaries.{iteration-summed, all_summed, some_path_of_all, all_behind-summed, all_before-summed}

-- the places of a statement and of those in it

pub at_place-within : (xs ys : List StmtTree) (k : ℕ) → k < length xs → at_place (xs ++ ys) k ≡ at_place xs k
at_place-within [] ys k h = absurd (omega arith)
at_place-within (x ∷ xs) ys k h = grind (arith, eqb-true, at_place-within xs ys (k - 1))

some_or : StmtTree → Option StmtTree → StmtTree
some_or d (Some s) = s
some_or d None = d

-- the statement at this place, and what is in it, ends within so many
abbrev Fits : List StmtTree → ℕ → Type 0
Fits xs count = (k : ℕ) (f : StmtTree) → at_place xs k ≡ Some f → k + statement_count f ≤ count

head_fits : (s : StmtTree) (rest : List StmtTree) (count : ℕ) → statement_count s ≡ count + 1 → Fits rest count → Fits (s ∷ rest) (statement_count s)
unfolding some_or
head_fits s rest count c h k f e = by (k == 0) refl e
  where
    by : (r : Bool) → (k == 0) ≡ r → (if r then Some s else at_place rest (k - 1)) ≡ Some f → k + statement_count f ≤ statement_count s
    by true z g = let i : statement_count s ≡ statement_count f = ap (λ (o : Option StmtTree). statement_count (some_or s o)) g in let j : k ≡ 0 = eqb-true k 0 z in omega arith
    by false z g = let i : k - 1 + statement_count f ≤ count = h (k - 1) f g in omega (arith, c, i)

append_fits : (xs ys : List StmtTree) (a b : ℕ) → length xs ≡ a → Fits xs a → Fits ys b → Fits (xs ++ ys) (a + b)
append_fits xs ys a b l h g k f e = by (nat_lt k (length xs)) refl
  where
    by : (r : Bool) → nat_lt k (length xs) ≡ r → k + statement_count f ≤ a + b
    by true z =
        let w : k < length xs = grind arith in
        let i : k + statement_count f ≤ a = h k f (sym (at_place-within xs ys k w) ∙ e) in
        omega arith
    by false z =
        let w : length xs ≤ k = grind arith in
        let d : k - length xs + length xs ≡ k = omega arith in
        let i : k - length xs + statement_count f ≤ b = g (k - length xs) f (sym (at_place-back xs ys k (k - length xs) d) ∙ e) in
        omega (arith, l)

is_none_here : Option StmtTree → Bool
is_none_here (Some s) = false
is_none_here None = true

none_fits : (count : ℕ) → Fits [] count
unfolding is_none_here
none_fits count k f e = untrue (sym (ap is_none_here e))

mutual
  fits : (s : StmtTree) → Fits (numbered s) (statement_count s)
  fits (Assign left right) = head_fits (Assign left right) [] 0 refl (none_fits 0)
  fits (If c a b) =
      head_fits (If c a b) (all_numbered a ++ all_numbered b) (statements_count a + statements_count b) refl
      (append_fits (all_numbered a) (all_numbered b) (statements_count a) (statements_count b) (length-all_numbered a) (all_fits a) (all_fits b))
  fits (Do h body) = head_fits (Do h body) (all_numbered body) (statements_count body) refl (all_fits body)
  fits (Print items) = head_fits (Print items) [] 0 refl (none_fits 0)
  fits (Read items) = head_fits (Read items) [] 0 refl (none_fits 0)
  fits Stop = head_fits Stop [] 0 refl (none_fits 0)
  fits (Comment text) = none_fits 0

  all_fits : (ss : StmtTrees) → Fits (all_numbered ss) (statements_count ss)
  all_fits no_stmts = none_fits 0
  all_fits (more_stmts s rest) = append_fits (numbered s) (all_numbered rest) (statement_count s) (statements_count rest) (length-numbered s) (fits s) (all_fits rest)

-- the body of a DO ends within the program
pub loop_fits : (t : ProgramTree) (l : ℕ) (h : Head) (body : StmtTrees) → IsLoop t l h body → l + statements_count body ≤ statements_count t.body
loop_fits t l h body is = by (l == 0) refl is
  where
    by : (r : Bool) → (l == 0) ≡ r → (if r then None else at_place (all_numbered t.body) (l - 1)) ≡ Some (Do h body) → l + statements_count body ≤ statements_count t.body
    by true z g = let i : 0 + (statements_count body + 1) ≤ 0 = none_fits 0 0 (Do h body) g in absurd (omega (arith, i))
    by false z g =
        let i : l - 1 + (statements_count body + 1) ≤ statements_count t.body = all_fits t.body (l - 1) (Do h body) g in
        let j : (l == 0) ≡ false = z in
        grind (arith, eqb-true)

-- one number has one DO

head_or : Head → Option StmtTree → Head
head_or d (Some (Do h body)) = h
head_or d s = d

body_or : StmtTrees → Option StmtTree → StmtTrees
body_or d (Some (Do h body)) = body
body_or d s = d

pub same_head : (t : ProgramTree) (l : ℕ) (h g : Head) (a b : StmtTrees) → IsLoop t l h a → IsLoop t l g b → h ≡ g
unfolding head_or
same_head t l h g a b i j = ap (head_or h) (sym i ∙ j)

pub same_body : (t : ProgramTree) (l : ℕ) (h g : Head) (a b : StmtTrees) → IsLoop t l h a → IsLoop t l g b → a ≡ b
unfolding body_or
same_body t l h g a b i j = ap (body_or a) (sym i ∙ j)

-- exposed reads

pub exposed_in_loop : (t : ProgramTree) (l : ℕ) (x : List ℕ) (h : Head) (body : StmtTrees) (a : Option ℕ) → IsLoop t l h body
    → IsFirst (IsReadOn (iteration l h body (all_paths (constant_names t.decls) body (l + 1))) x) a → IsFirst (IsExposed t l x) a
exposed_in_loop t l x h body a is k =
    first_map (IsReadOn (iteration l h body (all_paths (constant_names t.decls) body (l + 1))) x) (IsExposed t l x) a
    (λ n s. record { loop = record { head = h; body = body; is = is }; path = s.0; leads = s.1; reads = s.2 }) from k
  where
    from : (n : ℕ) → IsExposed t l x n → IsReadOn (iteration l h body (all_paths (constant_names t.decls) body (l + 1))) x n
    from n s =
        let hs : s.loop.head ≡ h = same_head t l s.loop.head h s.loop.body body s.loop.is is in
        let bs : s.loop.body ≡ body = same_body t l s.loop.head h s.loop.body body s.loop.is is in (
          s.path,
          subst (λ (b : StmtTrees). Whole (iteration l h b (all_paths (constant_names t.decls) b (l + 1))) s.path) bs
              (subst (λ (g : Head). Whole (iteration l g s.loop.body (all_paths (constant_names t.decls) s.loop.body (l + 1))) s.path) hs s.leads),
          s.reads,
        )

pub exposed_nowhere : (t : ProgramTree) (l : ℕ) (x : List ℕ) → ((h : Head) (body : StmtTrees) → IsLoop t l h body → ⊥) → IsFirst (IsExposed t l x) None
exposed_nowhere t l x none = λ n s. none s.loop.head s.loop.body s.loop.is

pub first_in_iteration : (cs : List (List ℕ)) (x : List ℕ) (l : ℕ) (h : Head) (body : StmtTrees) (a b r : Summary) → a ≡ summary_events x (start_events l h body) → b ≡ summary_of_all cs x body (l + 1) → r ≡ summary_in_turn a b
    → IsFirst (IsReadOn (iteration l h body (all_paths cs body (l + 1))) x) r.first
first_in_iteration cs x l h body a b r i j k =
    subst (λ (m : Summary). IsFirst (IsReadOn (iteration l h body (all_paths cs body (l + 1))) x) m.first) (sym (k ∙ (λ z. summary_in_turn (i z) (j z))))
    (iteration-summed x l h body (all_paths cs body (l + 1)) (summary_of_all cs x body (l + 1)) (some_path_of_all cs body (l + 1)) (all_summed cs x body (l + 1))).first

-- assigned on all paths

to_assigned : (P : Kind) (x : List ℕ) (m : Summary) → AreOnward P x m → (not m.keeps && not m.loses) ≡ true → IsAssignedOn P x
to_assigned P x m h t = λ path w. by path w (has_value x false path) refl
  where
    not_so : (b : Bool) → not b ≡ true → b ≡ true → ⊥
    not_so true i j = untrue i
    not_so false i j = untrue j

    lost : (path : List Event) → P path → (overwrites x path ≡ false) ⊎ (has_value x true path ≡ false) → ⊥
    lost path w (inl k) = not_so m.keeps (and_split (not m.keeps) (not m.loses) t).0 (h.keeps.1 (path, w, k))
    lost path w (inr k) = not_so m.loses (and_split (not m.keeps) (not m.loses) t).1 (h.loses.1 (path, w, k))

    by : (path : List Event) → P path → (v : Bool) → has_value x false path ≡ v → has_value x false path ≡ true
    by path w true e = e
    by path w false e = absurd (lost path w (has_value-none x path e))

from_assigned : (P : Kind) (x : List ℕ) (m : Summary) → AreOnward P x m → IsAssignedOn P x → (not m.keeps && not m.loses) ≡ true
from_assigned P x m h f = by m.keeps m.loses refl refl
  where
    by : (k l : Bool) → m.keeps ≡ k → m.loses ≡ l → (not k && not l) ≡ true
    by true l i j = let s = h.keeps.0 i in untrue (sym (has_value-kept x false s.0 s.2) ∙ f s.0 s.1)
    by false true i j = let s = h.loses.0 j in untrue (sym (has_value-lost x false s.0 s.2) ∙ f s.0 s.1)
    by false false i j = refl

pub assigned_by : (P : Kind) (x : List ℕ) (m k : Summary) (r : Bool) → AreOnward P x k → m ≡ k → r ≡ (not m.keeps && not m.loses) → IsTrue r ↔ IsAssignedOn P x
assigned_by P x m k r h e g =
    let w : r ≡ (not k.keeps && not k.loses) = g ∙ ap (λ (z : Summary). not z.keeps && not z.loses) e in
    (λ t. to_assigned P x k h (sym w ∙ t), λ f. w ∙ from_assigned P x k h f)

pub through_loop : (t : ProgramTree) (l : ℕ) (x : List ℕ) (h : Head) (body : StmtTrees) (r : Bool) → IsLoop t l h body
    → IsTrue r ↔ IsAssignedOn (all_paths (constant_names t.decls) body (l + 1)).onward x → IsTrue r ↔ IsAssignedThrough t l x
through_loop t l x h body r is k = (to, λ f. k.1 (f record { head = h; body = body; is = is }))
  where
    to : IsTrue r → IsAssignedThrough t l x
    to i g = subst (λ (b : StmtTrees). IsAssignedOn (all_paths (constant_names t.decls) b (l + 1)).onward x) (same_body t l h g.head body g.body is g.is) (k.0 i)

pub through_nowhere : (t : ProgramTree) (l : ℕ) (x : List ℕ) → ((h : Head) (body : StmtTrees) → IsLoop t l h body → ⊥) → IsTrue true ↔ IsAssignedThrough t l x
through_nowhere t l x none = (λ i g. absurd (none g.head g.body g.is), λ f. refl)

-- live after

pub read_behind : (t : ProgramTree) (l : ℕ) (x : List ℕ) (a : Option ℕ) → IsFirst (IsReadOn (paths_from_exit t l) x) a → IsFirst (IsReadBehind t l x) a
read_behind t l x a = first_map (IsReadOn (paths_from_exit t l) x) (IsReadBehind t l x) a (λ n s. record { path = s.0; leads = s.1; reads = s.2 }) (λ n s. (s.path, s.leads, s.reads))

-- some path from the exit leaves the scalar as it is
abbrev pub Left : ProgramTree → ℕ → List ℕ → Type 0
Left t l x = (path : List Event) × Whole (paths_from_exit t l) path × (overwrites x path ≡ false)

pub left_is : (t : ProgramTree) (l : ℕ) (x : List ℕ) (m : Summary) → AreSummed (paths_from_exit t l) x m → IsTrue (m.keeps || m.ends) ↔ Left t l x
left_is t l x m h = (λ i. to (both.0 i), λ s. both.1 (from s.0 s.1 s.2))
  where
    both : IsTrue (m.keeps || m.ends)
        ↔ (((path : List Event) × (paths_from_exit t l).onward path × (overwrites x path ≡ false)) ⊎ ((path : List Event) × (paths_from_exit t l).ending path × (overwrites x path ≡ false)))
    both = or_iff m.keeps m.ends h.onward.keeps h.ends

    to : ((path : List Event) × (paths_from_exit t l).onward path × (overwrites x path ≡ false)) ⊎ ((path : List Event) × (paths_from_exit t l).ending path × (overwrites x path ≡ false)) → Left t l x
    to (inl s) = (s.0, inl s.1, s.2)
    to (inr s) = (s.0, inr s.1, s.2)

    from : (path : List Event) → Whole (paths_from_exit t l) path → overwrites x path ≡ false
        → ((path : List Event) × (paths_from_exit t l).onward path × (overwrites x path ≡ false)) ⊎ ((path : List Event) × (paths_from_exit t l).ending path × (overwrites x path ≡ false))
    from path (inl w) k = inl (path, w, k)
    from path (inr w) k = inr (path, w, k)

reader_none : (t : ProgramTree) (l : ℕ) (x : List ℕ) (kept saved : Bool) → IsFirst (IsReadBehind t l x) None → IsTrue kept ↔ Left t l x → saved ≡ is_among x (flat_map saved_in t.decls) → IsReader t l x (reader_else (kept && saved))
reader_none t l x true true f k s = (f, record { saved = sym s; path = (k.0 refl).0; leads = (k.0 refl).1; kept = (k.0 refl).2 })
reader_none t l x true false f k s = none
  where
    none : IsLiveAfter t l x → ⊥
    none (inl r) = f r.0 r.1
    none (inr r) = untrue (s ∙ r.saved)
reader_none t l x false saved f k s = none
  where
    none : IsLiveAfter t l x → ⊥
    none (inl r) = f r.0 r.1
    none (inr r) = untrue (k.1 (r.path, r.leads, r.kept))

reader_at : (t : ProgramTree) (l : ℕ) (x : List ℕ) (a : Option ℕ) (kept saved : Bool) → IsFirst (IsReadBehind t l x) a → IsTrue kept ↔ Left t l x → saved ≡ is_among x (flat_map saved_in t.decls) → IsReader t l x (reader_by a (kept && saved))
reader_at t l x (Some n) kept saved f k s = f
reader_at t l x None kept saved f k s = reader_none t l x kept saved f k s

pub reader_is : (t : ProgramTree) (l : ℕ) (x : List ℕ) (m k : Summary) (saved : Bool) → AreSummed (paths_from_exit t l) x k → m ≡ k → saved ≡ is_among x (flat_map saved_in t.decls)
    → IsReader t l x (reader_by m.first ((m.keeps || m.ends) && saved))
reader_is t l x m k saved h e s =
    subst (λ (z : Summary). IsReader t l x (reader_by z.first ((z.keeps || z.ends) && saved))) (sym e)
    (reader_at t l x k.first (k.keeps || k.ends) saved (read_behind t l x k.first h.first) (left_is t l x k h) s)

-- the same for a scalar as the code has it

pub exposed_answer : (t : ProgramTree) (l : ℕ) (x y : List ℕ) (cs : List (List ℕ)) (h : Head) (body : StmtTrees) (a : Option ℕ) → y ≡ x → cs ≡ constant_names t.decls → IsLoop t l h body
    → IsFirst (IsReadOn (iteration l h body (all_paths cs body (l + 1))) y) a → IsFirst (IsExposed t l x) a
exposed_answer t l x y cs h body a f e is k =
    exposed_in_loop t l x h body a is
    (subst (λ (u : List (List ℕ)). IsFirst (IsReadOn (iteration l h body (all_paths u body (l + 1))) x) a) e
    (subst (λ (z : List ℕ). IsFirst (IsReadOn (iteration l h body (all_paths cs body (l + 1))) z) a) f k))

pub through_answer : (t : ProgramTree) (l : ℕ) (x y : List ℕ) (cs : List (List ℕ)) (h : Head) (body : StmtTrees) (r : Bool) → y ≡ x → cs ≡ constant_names t.decls → IsLoop t l h body
    → IsTrue r ↔ IsAssignedOn (all_paths cs body (l + 1)).onward y → IsTrue r ↔ IsAssignedThrough t l x
through_answer t l x y cs h body r f e is k =
    through_loop t l x h body r is
    (subst (λ (u : List (List ℕ)). IsTrue r ↔ IsAssignedOn (all_paths u body (l + 1)).onward x) e
    (subst (λ (z : List ℕ). IsTrue r ↔ IsAssignedOn (all_paths cs body (l + 1)).onward z) f k))

pub before_answer : (t : ProgramTree) (l : ℕ) (x : List ℕ) (m : Summary) (r : Bool) → m ≡ summary_before_all (constant_names t.decls) x l t.body 1 → r ≡ (not m.keeps && not m.loses) → IsTrue r ↔ IsAssignedBefore t l x
before_answer t l x m r h k = assigned_by (paths_to_outermost t l) x m (summary_before_all (constant_names t.decls) x l t.body 1) r (all_before-summed (constant_names t.decls) x l t.body 1) h k

pub live_answer : (t : ProgramTree) (l : ℕ) (x : List ℕ) (m : Summary) (leaves saved shown : Bool) (r : Option Reader) → m ≡ summary_behind_all (constant_names t.decls) x l t.body 1 → leaves ≡ (m.keeps || m.ends) → saved ≡ is_among x (flat_map saved_in t.decls)
    → shown ≡ (leaves && saved) → r ≡ reader_by m.first shown → IsReader t l x r
live_answer t l x m leaves saved shown r h k s b e =
    subst (λ (z : Option Reader). IsReader t l x z) (sym (e ∙ ap (reader_by m.first) (b ∙ ap (λ (u : Bool). u && saved) k)))
    (reader_is t l x m (summary_behind_all (constant_names t.decls) x l t.body 1) saved (all_behind-summed (constant_names t.decls) x l t.body 1) h s)
