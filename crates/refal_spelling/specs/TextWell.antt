-- A text of good tokens is well-formed UTF-8.
use Rattle.std.specs.Prelude.{ℕ, suc, ◌+◌, ◌<◌, ◌≤◌, Bool, true, false, List, [], ◌∷◌, ◌++◌, ◌≡◌, refl, T, eqb, length}
use Rattle.std.proofs.Common.{arith, add-zero, zero-add, suc-add, lt-ltb, le-leb, ne_eqb, true≢false, append_assoc, append-nil, ap, sym, subst, ◌∙◌, length-append}
use Rattle.std.proofs.Math.Decide.{dec_le}
use Rattle.std.proofs.lemmas.Bool.{lt-leb}
use Rattle.std.proofs.Math.Seq.{drop-append_seam}
use Rattle.refal_rows.specs.Tests.{each_below}
use Rattle.refal_text.specs.Pick.{split}
use Rattle.refal_text.specs.Encode.{encode, Scalar}
use Rattle.refal_text.specs.EncodeLaws.{Enc, enc_ascii, enc_wide, encoded, decode_encode}
use Rattle.refal_text.specs.Utf8.{ascii, decode, char, well_to}
use Rattle.refal_text.specs.Utf8Laws.{decode_ascii, well_skip}
use Rattle.refal_text.specs.declared.Char.{Char}
use Rattle.refal_lexer.specs.Classes.{digit, name_byte}
use Rattle.refal_spelling.specs.Spell.{Spelled, body, mark_byte, spelling, text}
use Rattle.refal_spelling.specs.Good.{Every, none, also, Sign, unsigned, plus, minus, Part, absent, digits, Number, macrodigit, real}
use Rattle.refal_spelling.specs.Good.{Good, entry, extern, identifier, variable_of, number, character, mark, AllGood, no_more, and_more}
use Rattle.refal_spelling.specs.Runs.{every_map, every_append}
use Rattle.refal_spelling.specs.ScanWords.{upper_low, digit_low, variable_low}
use Rattle.refal_spelling.specs.TextReads.{mark_spelling}

-- ---- well-formed, whatever stands behind
Well : List ℕ → Type 0
Well l = (r : List ℕ) → well_to 0 (l ++ r) ≡ length l + well_to 0 r

well_none : Well []
unfolding Well
well_none r = sym (zero-add _)

well_append : (a b : List ℕ) → Well a → Well b → Well (a ++ b)
unfolding Well
well_append a b f g r = ap (well_to 0) (append_assoc a b r) ∙ f (b ++ r) ∙ omega (arith, g r, length-append a b)

well_char : (b : ℕ) (bs : List ℕ) → ((r : List ℕ) → (decode (b ∷ bs ++ r)).len ≡ suc (length bs)) → Well (b ∷ bs)
unfolding Well well_to
well_char b bs d r =
    let h : length bs ≤ length (bs ++ r) = rw length-append (omega arith) in
    rw (d r) (ap suc (well_skip (length bs) (bs ++ r) h ∙ ap (λ (l : List ℕ). length bs + well_to 0 l) (drop-append_seam bs r)) ∙ sym (suc-add (length bs) (well_to 0 r)))

well_byte : (b : ℕ) → ascii b ≡ true → Well (b ∷ [])
well_byte b h = well_char b [] (λ r. ap (λ (c : Char). c.len) (decode_ascii b r h))

well_ascii : (s : List ℕ) → Every ascii s → Well s
well_ascii s none = well_none
well_ascii s (also b t h a) = well_append (b ∷ []) t (well_byte b h) (well_ascii t a)

well_whole : (l : List ℕ) → Well l → well_to 0 l ≡ length l
unfolding Well well_to
well_whole l w = ap (well_to 0) (sym (append-nil l)) ∙ w [] ∙ add-zero (length l)

-- ---- the bytes of words are below 128
name_low : (b : ℕ) → name_byte b ≡ true → ascii b ≡ true
name_low b h = go (dec_le 128 b)
  where
    go : Dec (128 ≤ b) → ascii b ≡ true
    go (yes l) =
        let n₁ = lt-leb b 90 (omega arith) in
        let n₂ = lt-leb b 122 (omega arith) in
        let n₃ = lt-leb b 57 (omega arith) in
        let z : name_byte b ≡ false = simp (n₁, n₂, n₃, le-leb 65 b (omega arith), le-leb 97 b (omega arith), le-leb 48 b (omega arith), ne_eqb b 95 (omega arith), ne_eqb b 45 (omega arith)) in
        absurd (true≢false (sym h ∙ z))
    go (no l) = lt-ltb b 128 (omega arith)

digit_ascii : (b : ℕ) → digit b ≡ true → ascii b ≡ true
digit_ascii b h = lt-ltb _ _ (digit_low b h)

digits_ascii : (b : ℕ) (s : List ℕ) → digit b ≡ true → Every digit s → Every ascii (b ∷ s)
digits_ascii b s d a = every_map digit ascii digit_ascii (b ∷ s) (also b s d a)

sign_ascii : (signed : Bool) (l : List ℕ) → Sign signed l → Every ascii l
sign_ascii signed l unsigned = none
sign_ascii signed l (plus e) = also 43 [] refl none
sign_ascii signed l (minus e) = also 45 [] refl none

part_ascii : (m : ℕ) (signed : Bool) (ps : List ℕ) → ascii m ≡ true → Part m signed ps → Every ascii ps
part_ascii m signed ps h absent = none
part_ascii m signed ps h (digits l b s g d a) = also m (l ++ (b ∷ s)) h (every_append ascii l (b ∷ s) (sign_ascii signed l g) (digits_ascii b s d a))

number_ascii : (w : List ℕ) → Number w → Every ascii w
number_ascii w (macrodigit b s d a h) = digits_ascii b s d a
number_ascii w (real sign b s ps qs g d a hp hq h) =
    every_append ascii sign (b ∷ s ++ (ps ++ qs)) (sign_ascii true sign g)
    (every_append ascii (b ∷ s) (ps ++ qs) (digits_ascii b s d a)
    (every_append ascii ps qs (part_ascii 46 false ps refl hp) (part_ascii 69 true qs refl hq)))

-- ---- characters
well_encode : (x : ℕ) (l : List ℕ) → Enc x l → ((r : List ℕ) → decode (l ++ r) ≡ char x (length l)) → Well l
well_encode x l (enc_ascii h) d = well_byte x (lt-ltb _ _ h)
well_encode x l (enc_wide b bs h) d = well_char b bs (λ r. ap (λ (c : Char). c.len) (d r))

well_body : (x : ℕ) → Scalar x → Well (body x)
unfolding body
well_body x sc = split Well (eqb x 39) _ _ (λ _. well_ascii (39 ∷ 39 ∷ []) (also 39 (39 ∷ []) refl (also 39 [] refl none))) (λ _. well_encode x (encode x) (encoded x) (decode_encode x sc))

-- ---- tokens
mark_ascii : (k : ℕ) → k < 17 → ascii (mark_byte k) ≡ true
mark_ascii k h = go (ascii (mark_byte k)) (each_below (λ (j : ℕ). ascii (mark_byte j)) 17 tt k h)
  where
    go : (t : Bool) → T t → t ≡ true
    go true h = refl
    go false h = absurd h

well_token : (t : Spelled) → Good t → Well (spelling t)
unfolding spelling
well_token t entry = well_ascii _ (also 36 _ refl (also 69 _ refl (also 78 _ refl (also 84 _ refl (also 82 _ refl (also 89 _ refl none))))))
well_token t extern = well_ascii _ (also 36 _ refl (also 69 _ refl (also 88 _ refl (also 84 _ refl (also 82 _ refl (also 78 _ refl none))))))
well_token t (identifier b s u a h) = well_ascii (b ∷ s) (also b s (lt-ltb _ _ (upper_low b u)) (every_map name_byte ascii name_low s a))
well_token t (variable_of v w u a lo hi) = well_ascii (v ∷ 46 ∷ w) (also v (46 ∷ w) (lt-ltb _ _ (variable_low v u)) (also 46 w refl (every_map name_byte ascii name_low w a)))
well_token t (number w h) = well_ascii w (number_ascii w h)
well_token t (character x sc n) = well_append (39 ∷ []) (body x ++ (39 ∷ [])) (well_byte 39 refl) (well_append (body x) (39 ∷ []) (well_body x sc) (well_byte 39 refl))
well_token t (mark k lo hi) = subst Well (sym (mark_spelling k lo)) (well_byte (mark_byte k) (mark_ascii k (omega arith)))

pub token_well : (t : Spelled) → Good t → well_to 0 (spelling t) ≡ length (spelling t)
token_well t g = well_whole (spelling t) (well_token t g)

well_text : (ts : List Spelled) → AllGood ts → Well (text ts)
unfolding text
well_text ts no_more = well_none
well_text ts (and_more {t = t} {ts = us} g a) = well_append (spelling t ++ (32 ∷ [])) (text us) (well_append (spelling t) (32 ∷ []) (well_token t g) (well_byte 32 refl)) (well_text us a)

pub text_well : (ts : List Spelled) → AllGood ts → well_to 0 (text ts) ≡ length (text ts)
text_well ts a = well_whole (text ts) (well_text ts a)
