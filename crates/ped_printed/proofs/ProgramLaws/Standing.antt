-- What is open at the statements of a printed program, and which tests fail there.
use Rattle.std.proofs.Common.{◌≡◌, ℕ, suc, ◌+◌, ◌≤◌, List, [], ◌∷◌, ◌++◌, map, max, length, Bool, true, false, refl, ap, ◌∙◌, append_assoc, arith}
use Rattle.std.specs.Prelude.{codes, not, ◌&&◌, ◌||◌, nat_lt, nat_le}
use Rattle.std.specs.List.{list_any, list_all, flat_map}
use Rattle.ped_lines.specs.ped_tree.specs.Grammar.Words.{is_name}
use Rattle.ped_lines.specs.ped_tree.specs.Grammar.Refusal.{Finding, Syntax, NotInProfile, OpenBlock, BadTerminal, IndexAssigned, StopPlace, Limit, refused_if}
use Rattle.ped_lines.specs.ped_tree.specs.Grammar.Statement.{Note}
use Rattle.ped_lines.specs.ped_tree.specs.Grammar.Items.{Entry}
use Rattle.ped_lines.specs.ped_tree.specs.Grammar.Contexts.{Block, in_then, in_else, in_do, Context, is_do, open_variables, behind}
use Rattle.ped_lines.specs.ped_tree.specs.Grammar.Fits.{Surroundings}
use Rattle.ped_lines.specs.ped_tree.specs.Grammar.ProgramRefusals.{where_it_says, is_left_out, breaks_syntax, is_behind_end, leaves_open, ends_badly, assigns_index, at_private, stops, loop_depth, block_depth, passes_limit, is_bad_directive, at_directives, at_statement, at_statements}
use Rattle.ped_lines.specs.Printed.Printed.{PrintedNote, a_comment, a_rejection}
use Rattle.ped_lines.specs.Printed.Cut.{comments_at, directives_at}
use Rattle.ped_printed.proofs.ProgramLaws.Trees.{rejections}
use Rattle.ped_printed.proofs.ProgramLaws.KeptPrivate.{open_private, none}

-- these surroundings are those of a statement in the context
pub record Stands (p : Surroundings) (c : Context) : Type 0 where
  pub constants : c.constants ≡ p.constants
  pub variables : open_variables c.blocks ≡ p.variables
  pub private : open_private c.blocks ≡ p.private
  pub depth : block_depth c.blocks ≡ p.depth
  pub statements : c.statements ≡ p.statements
  pub phase : nat_le c.phase 4 ≡ true

pub early : (phase : ℕ) → nat_le phase 4 ≡ true → nat_le 5 phase ≡ false
early phase h = grind arith

pub in_order : (phase : ℕ) → nat_le phase 4 ≡ true → nat_lt 4 phase ≡ false
in_order phase h = grind arith

pub still : (phase : ℕ) → nat_le phase 4 ≡ true → nat_le (max phase 4) 4 ≡ true
still phase h = grind arith

pub loops_open : (bs : List Block) → loop_depth bs ≡ length (open_variables bs)
loops_open [] = refl
loops_open (in_then n ∷ bs) = loops_open bs
loops_open (in_else n ∷ bs) = loops_open bs
loops_open (in_do d ∷ bs) = ap suc (loops_open bs)

-- nothing is refused where all tests fail
pub passes_all : (saved : List (List ℕ)) (c : Context) (e : Entry) (rest : List Entry) → at_directives c e ≡ [] → breaks_syntax c e.statement.label e.reading ≡ false → is_left_out e.reading ≡ false
    → where_it_says (leaves_open c.blocks) e.reading ≡ false → ends_badly c.blocks e.statement.label e.reading ≡ false → assigns_index c e.reading ≡ false → at_private c e.reading ≡ []
    → (where_it_says stops e.reading && nat_lt 0 (loop_depth c.blocks)) ≡ false → where_it_says (passes_limit saved c rest) e.reading ≡ false → at_statement saved c e rest ≡ []
passes_all saved c e rest d b o l t x k s m =
    let line = e.statement.line in
    let p = none Syntax line _ b in
    let q = none NotInProfile line _ o in
    let r = none OpenBlock line _ l in
    let u = none BadTerminal line _ t in
    let v = none IndexAssigned line _ x in
    let w = none StopPlace line _ s in
    let z = none Limit line _ m in
    λ i. d i ++ p i ++ q i ++ r i ++ u i ++ v i ++ k i ++ w i ++ z i

-- directives

no_directives : (n : ℕ) (ns : List PrintedNote) → rejections ns ≡ [] → directives_at n ns ≡ []
no_directives n [] h = refl
no_directives n (a_comment text ∷ ns) h = no_directives (n + 1) ns h
no_directives n (a_rejection x ∷ ns) h = absurd cc

pub undirected : (c : Context) (e : Entry) (n : ℕ) (ns : List PrintedNote) → e.statement.directives ≡ directives_at n ns → rejections ns ≡ [] → at_directives c e ≡ []
undirected c e n ns same h = ap (λ (ds : List Note). flat_map (λ d. refused_if (is_bad_directive c e d) Syntax d.line) ds) (same ∙ no_directives n ns h)

shifted : (n m : ℕ) → n + 1 + m ≡ n + suc m
shifted n m = omega arith

directives_behind : (n : ℕ) (ns : List PrintedNote) (names : List (List ℕ)) → rejections ns ≡ [] → directives_at n (ns ++ map a_rejection names) ≡ directives_at (n + length ns) (map a_rejection names)
directives_behind n [] names h = ap (λ m. directives_at m (map a_rejection names)) (zero_more n)
  where
    zero_more : (n : ℕ) → n ≡ n + 0
    zero_more n = omega arith
directives_behind n (a_comment text ∷ ns) names h = directives_behind (n + 1) ns names h ∙ ap (λ m. directives_at m (map a_rejection names)) (shifted n (length ns))
directives_behind n (a_rejection x ∷ ns) names h = absurd cc

none_behind : (n : ℕ) (names : List (List ℕ)) → comments_at n (map a_rejection names) ≡ []
none_behind n [] = refl
none_behind n (x ∷ xs) = none_behind (n + 1) xs

comments_front : (n : ℕ) (ns : List PrintedNote) (names : List (List ℕ)) → comments_at n (ns ++ map a_rejection names) ≡ comments_at n ns
comments_front n [] names = none_behind n names
comments_front n (a_comment text ∷ ns) names = ap (λ (ms : List Note). record { line = n; text = text } ∷ ms) (comments_front (n + 1) ns names)
comments_front n (a_rejection x ∷ ns) names = comments_front (n + 1) ns names

not_after : (n k l : ℕ) → n + suc k ≤ l → nat_lt l n ≡ false
not_after n k l h = grind arith

within_more : (n k l : ℕ) → n + suc k ≤ l → n + 1 + k ≤ l
within_more n k l h = omega arith

never : (a b : Bool) → a ≡ false → (a && b) ≡ false
never true b h = absurd cc
never false b h = refl

comments_before : (n : ℕ) (ns : List PrintedNote) (l s : ℕ) → n + length ns ≤ l → list_any (λ (m : Note). nat_lt l m.line && nat_lt m.line s) (comments_at n ns) ≡ false
comments_before n [] l s h = refl
comments_before n (a_comment text ∷ ns) l s h =
    ap (λ (b : Bool). b || list_any (λ (m : Note). nat_lt l m.line && nat_lt m.line s) (comments_at (n + 1) ns)) (never (nat_lt l n) (nat_lt n s) (not_after n (length ns) l h))
    ∙ comments_before (n + 1) ns l s (within_more n (length ns) l h)
comments_before n (a_rejection x ∷ ns) l s h = comments_before (n + 1) ns l s (within_more n (length ns) l h)

and_left : (a b : Bool) → (a && b) ≡ true → a ≡ true
and_left true b h = refl
and_left false b h = absurd cc

and_right : (a b : Bool) → (a && b) ≡ true → b ≡ true
and_right true b h = h
and_right false b h = absurd cc

not_later : (n k s : ℕ) → n + suc k ≤ s → nat_lt s n ≡ false
not_later n k s h = grind arith

one_more : (m n : ℕ) → m ≤ n → m ≤ n + 1
one_more m n h = omega arith

-- no directive from line n on is bad, where the comments stand before line m
directives_good : (c : Context) (e : Entry) (m n : ℕ) (names : List (List ℕ)) → is_behind_end c ≡ false → where_it_says is_do e.reading ≡ true
    → ((l : ℕ) → m ≤ l → list_any (λ (k : Note). nat_lt l k.line && nat_lt k.line e.statement.line) e.statement.comments ≡ false)
    → m ≤ n → n + length names ≤ e.statement.line → list_all is_name names ≡ true
    → flat_map (λ (d : Note). refused_if (is_bad_directive c e d) Syntax d.line) (directives_at n (map a_rejection names)) ≡ []
directives_good c e m n [] before loop apart low high named = refl
directives_good c e m n (x ∷ xs) before loop apart low high named =
    let is = and_left (is_name x) (list_all is_name xs) named in
    let late = not_later n (length xs) e.statement.line high in
    let part = apart n low in
    let bad : is_bad_directive c e (record { line = n; text = codes "REJECT" ++ x }) ≡ false = λ i. before i || not (is i) || not (loop i) || late i || part i in
    let rest = directives_good c e m (n + 1) xs before loop apart (one_more m n low) (within_more n (length xs) e.statement.line high) (and_right (is_name x) (list_all is_name xs) named) in
    (let first = none Syntax n _ bad in λ i. first i ++ rest i)

pub directed : (c : Context) (e : Entry) (n : ℕ) (ns : List PrintedNote) (names : List (List ℕ)) → is_behind_end c ≡ false → where_it_says is_do e.reading ≡ true
    → e.statement.comments ≡ comments_at n (ns ++ map a_rejection names) → e.statement.directives ≡ directives_at n (ns ++ map a_rejection names)
    → e.statement.line ≡ n + length (ns ++ map a_rejection names) → rejections ns ≡ [] → list_all is_name names ≡ true → at_directives c e ≡ []
directed c e n ns names before loop comments directives line only named =
    let m = n + length ns in
    let apart : (l : ℕ) → m ≤ l → list_any (λ (k : Note). nat_lt l k.line && nat_lt k.line e.statement.line) e.statement.comments ≡ false = λ l h.
    ap (λ (ks : List Note). list_any (λ (k : Note). nat_lt l k.line && nat_lt k.line e.statement.line) ks) (comments ∙ comments_front n ns names) ∙ comments_before n ns l e.statement.line h in
    ap (λ (ds : List Note). flat_map (λ d. refused_if (is_bad_directive c e d) Syntax d.line) ds) (directives ∙ directives_behind n ns names only)
    ∙ directives_good c e m m names before loop apart (itself m) (last n ns names e.statement.line line) named
  where
    itself : (m : ℕ) → m ≤ m
    itself m = omega arith

    lengths : (ns : List PrintedNote) (names : List (List ℕ)) → length (ns ++ map a_rejection names) ≡ length ns + length names
    lengths [] [] = refl
    lengths [] (y ∷ ys) = ap suc (lengths [] ys) ∙ up (length ys)
      where
        up : (k : ℕ) → suc (0 + k) ≡ 0 + suc k
        up k = omega arith
    lengths (z ∷ zs) ys = ap suc (lengths zs ys) ∙ front (length zs) (length ys)
      where
        front : (j k : ℕ) → suc (j + k) ≡ suc j + k
        front j k = omega arith

    last : (n : ℕ) (ns : List PrintedNote) (names : List (List ℕ)) (l : ℕ) → l ≡ n + length (ns ++ map a_rejection names) → n + length ns + length names ≤ l
    last n ns names l h = let k = lengths ns names in omega (arith, h, k)

-- statements that are accepted one behind the other, and what is open behind them
pub record Passed (saved : List (List ℕ)) (c : Context) (p : Surroundings) (bs : List Block) (es rest : List Entry) : Type 0 where
  pub after : Context
  pub accepted : at_statements saved c (es ++ rest) ≡ at_statements saved after rest
  pub position : Stands p after
  pub blocks : after.blocks ≡ bs

pub pass_none : (saved : List (List ℕ)) (c : Context) (p : Surroundings) (rest : List Entry) → Stands p c → Passed saved c p c.blocks [] rest
pass_none saved c p rest s = record { after = c; accepted = refl; position = s; blocks = refl }

abbrev pub pass_one : (saved : List (List ℕ)) (c : Context) (p : Surroundings) (bs : List Block) (e : Entry) (rest : List Entry) → at_statement saved c e rest ≡ [] → Stands p (behind c e) → (behind c e).blocks ≡ bs
    → Passed saved c p bs (e ∷ []) rest
pass_one saved c p bs e rest ok s b = record {
  after = behind c e;
  accepted = ap (λ (fs : List Finding). fs ++ at_statements saved (behind c e) rest) ok;
  position = s;
  blocks = b;
}

-- two runs of statements
pub pass_both : (saved : List (List ℕ)) (c : Context) (p q : Surroundings) (bs cs : List Block) (es fs rest : List Entry)
    → (a : Passed saved c p bs es (fs ++ rest)) → Passed saved a.after q cs fs rest → Passed saved c q cs (es ++ fs) rest
pass_both saved c p q bs cs es fs rest a b = record {
  after = b.after;
  accepted = ap (λ (gs : List Entry). at_statements saved c gs) (append_assoc es fs rest) ∙ a.accepted ∙ b.accepted;
  position = b.position;
  blocks = b.blocks;
}
