-- White space and comments at the front of the bytes s.
use Rattle.std.specs.Prelude.{ℕ, ◌+◌, zero, suc, Bool, true, false, ◌&&◌, List, [], ◌∷◌, eqb, drop, get_or}
use Rattle.refal_text.specs.Pick.{pick}
use Rattle.refal_text.specs.Span.{span}
use Rattle.refal_text.specs.Utf8.{decode}
use Rattle.refal_text.specs.White.{white_space}
use Rattle.refal_lexer.specs.Classes.{not_newline}
use Rattle.refal_lexer.specs.Scans.{Comment, Long, Bare}

-- how many bytes the white-space character at the front of s has, and 0 where none is there
abbrev pub white_len : List ℕ → ℕ
white_len s = pick (white_space (decode s).code) (decode s).len 0

-- the end of a block comment of which n bytes are behind: the next `*/`. `star` says whether the byte before, of its body, is a star
unfoldable pub close_to : Bool → ℕ → List ℕ → Comment
close_to star n [] = Bare true
close_to star n (b ∷ s) = pick (star && eqb b 47) (Long (n + 1)) (close_to (eqb b 42) (n + 1) s)

-- the comment at the front of s, where a star `starts` one or not: a star to before the next newline, then `/*` to `*/`
abbrev pub comment_at : Bool → List ℕ → Comment
comment_at starts s =
    pick (eqb (get_or s 0 0) 42 && starts) (Long (1 + span not_newline (drop 1 s)))
    (pick (eqb (get_or s 0 0) 47 && eqb (get_or s 1 0) 42) (close_to false 2 (drop 2 s))
    (Bare false))

-- where n bytes of white space stand, `go` goes on behind the first of them
abbrev pub on_white : {A : Type 0} → ℕ → (ℕ → A) → A → A
on_white zero go other = other
on_white (suc k) go other = go k

-- where a comment of n bytes stands `go` goes on; where one is without its end, `never`
abbrev pub on_comment : {A : Type 0} → Comment → (ℕ → A) → A → A → A
on_comment (Long n) go never other = go n
on_comment (Bare o) go never other = pick o never other
