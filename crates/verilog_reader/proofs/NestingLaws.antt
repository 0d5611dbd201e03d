-- A counter of the braces that are open reads the expressions of the grammar, and only those.
use Rattle.std.proofs.Common.{◌≡◌, ℕ, zero, suc, ◌+◌, ◌-◌, ◌<◌, ◌==◌, ◌&&◌, ◌||◌, not, Bool, true, false, Option, Some, None, List, [], ◌∷◌, ◌++◌, refl, sym, ap, ◌∙◌, subst, arith, append_assoc, if◌then◌else◌}
use Rattle.std.specs.Str.{byte, bytes_eq}
use Rattle.std.proofs.lemmas.Bool.{and_parts, eqb-true}
use Rattle.std.proofs.lemmas.List.{append-nil}
use Rattle.std.proofs.lemmas.Option.{same_Some}
use Rattle.text_scan.specs.Repeat.{Runs, repeat, Shrinks}
use Rattle.text_scan.specs.Repeat.Runs.{over, turn as further}
use Rattle.text_scan.proofs.Binds.{step, by_test}
use Rattle.text_scan.proofs.RepeatLaws.{repeat_sound, repeat_complete}
use Rattle.verilog_lex.specs.Kinds.{names, escapes, numbers, signs}
use Rattle.verilog_lex.specs.declared.kinds.Kind.{Kind}
use Rattle.verilog_lex.specs.declared.kinds.Kind.TheVariants.{Name, Escaped, Number, Quoted, Sign}
use Rattle.verilog_lex.specs.declared.kinds.Token.{Token}
use Rattle.verilog_reader.specs.Left.{Left, Word, size, word_of, with_tokens, next, next_in, begins, begins_in}
use Rattle.verilog_reader.specs.Words.{sign, is_sign}
use Rattle.verilog_words.specs.Reserved.{is_reserved}
use Rattle.verilog_reader.specs.Names.{id, is_identifier}
use Rattle.verilog_reader.specs.declared.trees.Named.{Named}
use Rattle.verilog_reader.specs.Pieces.{piece, net, is_number, IsExpr, AreExprs}
use Rattle.verilog_reader.specs.Pieces.IsExpr.{one, joined}
use Rattle.verilog_reader.specs.Pieces.AreExprs.{last, more}
use Rattle.verilog_reader.specs.Joining.{Joint, is_done, wanted_turn, behind_turn, turn, somes, expr}
use Rattle.verilog_reader.proofs.SizeLemmas.{sign_less, piece_less}
use Rattle.verilog_reader.proofs.JoiningSteps.{joint_size, start}
use Rattle.verilog_reader.proofs.TableSteps.{bytes_same}
use Rattle.bud_syntax.specs.declared.modules.Piece.{Piece}

-- ---- what is read is an expression
-- behind an expression, with so many braces open: what closes them, with more expressions behind commas
data Closes : ℕ → Left → List Piece → Left → Type 0 where
  none : (s : Left) → Closes 0 s [] s
  closing : (d : ℕ) (s t u : Left) (ps : List Piece) → sign (byte "}") s ≡ Some t → Closes d t ps u → Closes (suc d) s ps u
  comma : (d : ℕ) (s behind end t u : Left) (ps qs all : List Piece) → sign (byte ",") s ≡ Some behind → AreExprs behind ps end → sign (byte "}") end ≡ Some t → Closes d t qs u → ps ++ qs ≡ all →
      Closes (suc d) s all u

-- an expression, and what closes the braces that are open
record Reads (d : ℕ) (s : Left) (all : List Piece) (u : Left) : Type 0 where
  pieces : List Piece
  others : List Piece
  behind : Left
  is_expr : IsExpr s pieces behind
  closed : Closes d behind others u
  whole : pieces ++ others ≡ all

-- the expressions up to the brace that closes, and what closes the others
record Shuts (d : ℕ) (s : Left) (all : List Piece) (u : Left) : Type 0 where
  pieces : List Piece
  others : List Piece
  end : Left
  behind : Left
  are : AreExprs s pieces end
  shut : sign (byte "}") end ≡ Some behind
  closed : Closes d behind others u
  whole : pieces ++ others ≡ all

shuts_by : (d : ℕ) (s t u : Left) (ps qs all : List Piece) → IsExpr s ps t → Closes (suc d) t qs u → ps ++ qs ≡ all → Shuts d s all u
shuts_by d s _ _ ps _ all is_expr (closing _ t v u qs shut closed) whole =
    record { pieces = ps; others = qs; end = t; behind = v; are = last s t ps is_expr; shut = shut; closed = closed; whole = whole }
shuts_by d s _ _ ps _ all is_expr (comma _ t behind end v u qs rs tail is_comma are shut closed tail_is) whole = record {
  pieces = ps ++ qs;
  others = rs;
  end = end;
  behind = v;
  are = more s t behind end ps qs is_expr is_comma are;
  shut = shut;
  closed = closed;
  whole = append_assoc ps qs rs ∙ ap (λ xs. ps ++ xs) tail_is ∙ whole;
}

shuts : (d : ℕ) (s : Left) (all : List Piece) (u : Left) → Reads (suc d) s all u → Shuts d s all u
shuts d s all u given = shuts_by d s given.behind u given.pieces given.others all given.is_expr given.closed given.whole

-- what a joint stands for
abbrev Means : Bool → ℕ → Left → List Piece → Left → Type 0
Means true d s ps u = Reads d s ps u
Means false d s ps u = Closes d s ps u

wanted_means : (d : ℕ) (s : Left) (r : Option Piece × Joint) (xs : List (Option Piece)) (u : Left) → wanted_turn d s ≡ Some r →
    Means r.1.wanted r.1.depth r.1.rest (somes xs) u → Reads d s (somes (r.0 ∷ xs)) u
unfolding wanted_turn
wanted_means d s r xs u read =
    let P : Option Piece × Joint → Type 0 = λ q. Means q.1.wanted q.1.depth q.1.rest (somes xs) u → Reads d s (somes (q.0 ∷ xs)) u in
    by_test (begins (is_sign (byte "{")) s)
    (λ opens. step (sign (byte "{") s) _ r (rw opens at read) (λ t is_open whole. subst P (same_Some _ r whole) (opened t is_open)))
    (λ bare. step (piece s) _ r (rw bare at read) (λ q is_piece whole. subst P (same_Some _ r whole) (found q is_piece))) where
      opened : (t : Left) → sign (byte "{") s ≡ Some t → Reads (d + 1) t (somes xs) u → Reads d s (somes xs) u
      opened t is_open given =
          let deeper : d + 1 ≡ suc d = omega arith in
          let shut = shuts d t (somes xs) u (subst (λ n. Reads n t (somes xs) u) deeper given) in
          record {
            pieces = shut.pieces;
            others = shut.others;
            behind = shut.behind;
            is_expr = joined s t shut.end shut.behind shut.pieces is_open shut.are shut.shut;
            closed = shut.closed;
            whole = shut.whole;
          }

      found : (q : Piece × Left) → piece s ≡ Some q → Closes d q.1 (somes xs) u → Reads d s (q.0 ∷ somes xs) u
      found q is_piece given =
          record { pieces = q.0 ∷ []; others = somes xs; behind = q.1; is_expr = one s q.1 q.0 is_piece; closed = given; whole = refl }

behind_means : (d : ℕ) (s : Left) (r : Option Piece × Joint) (xs : List (Option Piece)) (u : Left) → behind_turn (suc d) s ≡ Some r →
    Means r.1.wanted r.1.depth r.1.rest (somes xs) u → Closes (suc d) s (somes (r.0 ∷ xs)) u
unfolding behind_turn
behind_means d s r xs u read =
    let P : Option Piece × Joint → Type 0 = λ q. Means q.1.wanted q.1.depth q.1.rest (somes xs) u → Closes (suc d) s (somes (q.0 ∷ xs)) u in
    by_test (begins (is_sign (byte ",")) s)
    (λ separates. step (sign (byte ",") s) _ r (rw separates at read) (λ t is_comma whole. subst P (same_Some _ r whole) (separated t is_comma)))
    (λ bare. step (sign (byte "}") s) _ r (rw bare at read) (λ t is_end whole. subst P (same_Some _ r whole) (ended t is_end))) where
      separated : (t : Left) → sign (byte ",") s ≡ Some t → Reads (suc d) t (somes xs) u → Closes (suc d) s (somes xs) u
      separated t is_comma given =
          let shut = shuts d t (somes xs) u given in
          comma d s t shut.end shut.behind u shut.pieces shut.others (somes xs) is_comma shut.are shut.shut shut.closed shut.whole

      ended : (t : Left) → sign (byte "}") s ≡ Some t → Closes (suc d - 1) t (somes xs) u → Closes (suc d) s (somes xs) u
      ended t is_end given =
          let fewer : suc d - 1 ≡ d = omega arith in
          closing d s t u (somes xs) is_end (subst (λ n. Closes n t (somes xs) u) fewer given)

turn_means : (w : Bool) (d : ℕ) (s : Left) (r : Option Piece × Joint) (xs : List (Option Piece)) (u : Left) → (d == 0 && not w) ≡ false →
    (if w then wanted_turn d s else behind_turn d s) ≡ Some r → Means r.1.wanted r.1.depth r.1.rest (somes xs) u → Means w d s (somes (r.0 ∷ xs)) u
turn_means true d s r xs u goes read means = wanted_means d s r xs u read means
turn_means false zero s r xs u goes read means = absurd (cc)
turn_means false (suc d) s r xs u goes read means = behind_means d s r xs u read means

over_means : (w : Bool) (d : ℕ) (s : Left) → (d == 0 && not w) ≡ true → Means w d s [] s
over_means true d s done = absurd (let never = (and_parts (d == 0) (not true) done).1 in cc)
over_means false zero s done = none s
over_means false (suc d) s done = absurd (let never = eqb-true (suc d) 0 (and_parts (suc d == 0) (not false) done).0 in omega arith)

runs_mean : (j k : Joint) (xs : List (Option Piece)) → Runs is_done turn j xs k → Means j.wanted j.depth j.rest (somes xs) k.rest
runs_mean _ _ _ (over j done) = over_means j.wanted j.depth j.rest done
runs_mean _ _ _ (further j k end x xs goes read runs) = turn_means j.wanted j.depth j.rest (x, k) xs end.rest goes read (runs_mean k end xs runs)

whole_expr : (s u : Left) (all : List Piece) → Reads 0 s all u → IsExpr s all u
whole_expr s u all given = closed_whole given.behind u given.pieces given.others given.is_expr given.closed given.whole where
  closed_whole : (t u : Left) (ps qs : List Piece) → IsExpr s ps t → Closes 0 t qs u → ps ++ qs ≡ all → IsExpr s all u
  closed_whole _ _ ps _ is_expr (none t) whole = subst (λ xs. IsExpr s xs t) (sym (append-nil ps) ∙ whole) is_expr

pub expr_sound : (s t : Left) (pieces : List Piece) → expr s ≡ Some (pieces, t) → IsExpr s pieces t
unfolding expr
expr_sound s t pieces read = step (repeat is_done turn (size s) (start s)) _ (pieces, t) read (λ r is_read whole.
    let P : List Piece × Left → Type 0 = λ q. IsExpr s q.0 q.1 in
    subst P (same_Some (somes r.0, r.1.rest) (pieces, t) whole)
    (whole_expr s r.1.rest (somes r.0) (runs_mean (start s) r.1 r.0 (repeat_sound is_done turn (size s) (start s) r.0 r.1 is_read))))

-- ---- and all expressions are read
in_begins : (passes : Word → Bool) (ts : List Token) (s : Left) (r : Word × Left) → next_in ts s ≡ Some r → begins_in s.text passes ts ≡ passes r.0
in_begins passes [] s r read = absurd (cc)
in_begins passes (t ∷ ts) s r read = ap (λ q. passes q.0) (same_Some (word_of s.text t, with_tokens s ts) r read)

next_begins : (passes : Word → Bool) (s : Left) (r : Word × Left) → next s ≡ Some r → begins passes s ≡ passes r.0
next_begins passes s r read = in_begins passes s.tokens s r read

holds : {A : Type 0} (test : Bool) (x y : A) → (if test then Some x else None) ≡ Some y → test ≡ true
holds true x y read = refl
holds false x y read = absurd (cc)

begins_sign : (expected : ℕ) (s t : Left) → sign expected s ≡ Some t → begins (is_sign expected) s ≡ true
unfolding sign
begins_sign expected s t read = step (next s) _ t read (λ r is_next behind. next_begins (is_sign expected) s r is_next ∙ holds (is_sign expected r.0) r.1 t behind)

-- what begins with one sign doesn't begin with another
signs_apart : (w : Word) → is_sign (byte "}") w ≡ true → is_sign (byte ",") w ≡ false
signs_apart w begun =
    let parts = and_parts (signs w.kind) (bytes_eq w.bytes (byte "}" ∷ [])) begun in
    rw (parts.0, bytes_same w.bytes (byte "}" ∷ []) parts.1) refl

end_apart : (s t : Left) → sign (byte "}") s ≡ Some t → begins (is_sign (byte ",")) s ≡ false
unfolding sign
end_apart s t read = step (next s) _ t read (λ r is_next behind. next_begins (is_sign (byte ",")) s r is_next ∙ signs_apart r.0 (holds (is_sign (byte "}") r.0) r.1 t behind))

-- a piece doesn't begin with a sign
number_no_sign : (k : Kind) (same : Bool) → numbers k ≡ true → (signs k && same) ≡ false
number_no_sign Name same is = refl
number_no_sign Escaped same is = refl
number_no_sign Number same is = refl
number_no_sign Quoted same is = refl
number_no_sign Sign same is = absurd (cc)

id_no_sign : (k : Kind) (other same : Bool) → (escapes k || (names k && other)) ≡ true → (signs k && same) ≡ false
id_no_sign Name other same is = refl
id_no_sign Escaped other same is = refl
id_no_sign Number other same is = refl
id_no_sign Quoted other same is = refl
id_no_sign Sign other same is = absurd (cc)

number_apart : (text : List ℕ) (ts : List Token) → begins_in text is_number ts ≡ true → begins_in text (is_sign (byte "{")) ts ≡ false
number_apart text [] is = refl
number_apart text (t ∷ ts) is = number_no_sign t.kind (bytes_eq (word_of text t).bytes (byte "{" ∷ [])) is

id_apart : (s : Left) (r : Named × Left) → id s ≡ Some r → begins (is_sign (byte "{")) s ≡ false
unfolding id
id_apart s r read = step (next s) _ r read (λ q is_next behind.
    next_begins (is_sign (byte "{")) s q is_next
    ∙ id_no_sign q.0.kind (not (is_reserved q.0.bytes)) (bytes_eq q.0.bytes (byte "{" ∷ [])) (holds (is_identifier q.0) _ r behind))

net_apart : (s : Left) (r : Piece × Left) → net s ≡ Some r → begins (is_sign (byte "{")) s ≡ false
unfolding net
net_apart s r read = step (id s) _ r read (λ q is_id behind. id_apart s q is_id)

piece_apart : (s : Left) (r : Piece × Left) → piece s ≡ Some r → begins (is_sign (byte "{")) s ≡ false
unfolding piece
piece_apart s r read = by_test (begins is_number s)
    (λ counts. number_apart s.text s.tokens counts)
    (λ bare. net_apart s r (rw bare at read))

abbrev joint : ℕ → Bool → Left → Joint
joint d wanted s = record { depth = d; wanted = wanted; rest = s }

goes_wanted : (d : ℕ) → (d == 0 && not true) ≡ false
goes_wanted d = by_test (d == 0) (λ is. rw is refl) (λ other. rw other refl)

goes_open : (d : ℕ) → (suc d == 0 && not false) ≡ false
goes_open d = by_test (suc d == 0) (λ is. absurd (let never = eqb-true (suc d) 0 is in omega arith)) (λ other. rw other refl)

piece_turn : (d : ℕ) (s t : Left) (p : Piece) → piece s ≡ Some (p, t) → wanted_turn d s ≡ Some (Some p, joint d false t)
unfolding wanted_turn
piece_turn d s t p read = rw (piece_apart s (p, t) read, read) refl

open_turn : (d : ℕ) (s t : Left) → sign (byte "{") s ≡ Some t → wanted_turn d s ≡ Some (None, joint (d + 1) true t)
unfolding wanted_turn
open_turn d s t read = rw (begins_sign (byte "{") s t read, read) refl

comma_turn : (d : ℕ) (s t : Left) → sign (byte ",") s ≡ Some t → behind_turn d s ≡ Some (None, joint d true t)
unfolding behind_turn
comma_turn d s t read = rw (begins_sign (byte ",") s t read, read) refl

end_turn : (d : ℕ) (s t : Left) → sign (byte "}") s ≡ Some t → behind_turn (suc d) s ≡ Some (None, joint d false t)
unfolding behind_turn
end_turn d s t read = rw (end_apart s t read, read) (ap (λ n. Some (None, joint n false t)) (omega arith))

-- the turns from one joint on, to the end, with these pieces
record Turns (j k : Joint) (pieces : List Piece) : Type 0 where
  found : List (Option Piece)
  runs : Runs is_done turn j found k
  are : somes found ≡ pieces

mutual
  expr_turns : (d : ℕ) (s t : Left) (ps qs : List Piece) (k : Joint) → IsExpr s ps t → Turns (joint d false t) k qs → Turns (joint d true s) k (ps ++ qs)
  expr_turns d _ _ _ qs k (one s t p read) turns = record {
    found = Some p ∷ turns.found;
    runs = further (joint d true s) (joint d false t) k (Some p) turns.found (goes_wanted d) (piece_turn d s t p read) turns.runs;
    are = ap (λ xs. p ∷ xs) turns.are;
  }
  expr_turns d _ _ _ qs k (joined s inside end t ps is_open are shut) turns =
      let ended : Turns (joint (suc d) false end) k qs = record {
        found = None ∷ turns.found;
        runs = further (joint (suc d) false end) (joint d false t) k None turns.found (goes_open d) (end_turn d end t shut) turns.runs;
        are = turns.are;
      } in
      let others = exprs_turns d inside end ps qs k are ended in
      record {
        found = None ∷ others.found;
        runs = further (joint d true s) (joint (suc d) true inside) k None others.found (goes_wanted d) (open_turn d s inside is_open ∙ ap (λ n. Some (None, joint n true inside)) (omega arith)) others.runs;
        are = others.are;
      }

  exprs_turns : (d : ℕ) (s t : Left) (ps qs : List Piece) (k : Joint) → AreExprs s ps t → Turns (joint (suc d) false t) k qs → Turns (joint (suc d) true s) k (ps ++ qs)
  exprs_turns d _ _ _ qs k (last s t ps is_expr) turns = expr_turns (suc d) s t ps qs k is_expr turns
  exprs_turns d _ _ _ qs k (more s t behind u ps rs is_expr is_comma are) turns =
      let others = exprs_turns d behind u rs qs k are turns in
      let separated : Turns (joint (suc d) false t) k (rs ++ qs) = record {
        found = None ∷ others.found;
        runs = further (joint (suc d) false t) (joint (suc d) true behind) k None others.found (goes_open d) (comma_turn (suc d) t behind is_comma) others.runs;
        are = others.are;
      } in
      subst (λ xs. Turns (joint (suc d) true s) k xs) (sym (append_assoc ps rs qs)) (expr_turns (suc d) s t ps (rs ++ qs) k is_expr separated)

wanted_less : (d : ℕ) (s : Left) (r : Option Piece × Joint) → wanted_turn d s ≡ Some r → size r.1.rest < size s
unfolding wanted_turn
wanted_less d s r read =
    let P : Option Piece × Joint → Type 0 = λ q. size q.1.rest < size s in
    by_test (begins (is_sign (byte "{")) s)
    (λ opens. step (sign (byte "{") s) _ r (rw opens at read) (λ t is_open whole. subst P (same_Some _ r whole) (sign_less (byte "{") s t is_open)))
    (λ bare. step (piece s) _ r (rw bare at read) (λ q is_piece whole. subst P (same_Some _ r whole) (piece_less s q is_piece)))

behind_less : (d : ℕ) (s : Left) (r : Option Piece × Joint) → behind_turn d s ≡ Some r → size r.1.rest < size s
unfolding behind_turn
behind_less d s r read =
    let P : Option Piece × Joint → Type 0 = λ q. size q.1.rest < size s in
    by_test (begins (is_sign (byte ",")) s)
    (λ separates. step (sign (byte ",") s) _ r (rw separates at read) (λ t is_comma whole. subst P (same_Some _ r whole) (sign_less (byte ",") s t is_comma)))
    (λ bare. step (sign (byte "}") s) _ r (rw bare at read) (λ t is_end whole. subst P (same_Some _ r whole) (sign_less (byte "}") s t is_end)))

pub turn_less : Shrinks joint_size turn
turn_less j k x read = either j.wanted j.depth j.rest (x, k) read where
  either : (w : Bool) (d : ℕ) (s : Left) (r : Option Piece × Joint) → (if w then wanted_turn d s else behind_turn d s) ≡ Some r → size r.1.rest < size s
  either true d s r read = wanted_less d s r read
  either false d s r read = behind_less d s r read

pub expr_complete : (s t : Left) (pieces : List Piece) → IsExpr s pieces t → expr s ≡ Some (pieces, t)
unfolding expr
expr_complete s t pieces is_expr =
    let ends : Turns (joint 0 false t) (joint 0 false t) [] = record { found = []; runs = over (joint 0 false t) refl; are = refl } in
    let turns = expr_turns 0 s t pieces [] (joint 0 false t) is_expr ends in
    rw (repeat_complete is_done turn joint_size turn_less (size s) (start s) turns.found (joint 0 false t) turns.runs (omega arith), turns.are, append-nil pieces) refl
