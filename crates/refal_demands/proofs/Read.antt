-- What a state of the machine has read of its item, and that its parts are no deeper than the levels.
use mathlib.Core.Path.{◌≡◌}
use Prim.Native.Nat.{ℕ, suc, ◌≤◌}
use mathlib.Core.List.{List, ◌∷◌, ◌++◌}
use Rattle.refal_ast.specs.Kinds.{tok_entry, tok_extern, tok_l_brace, tok_l_paren, tok_l_angle, tok_comma, tok_colon, tok_equals}
use Rattle.refal_ast.specs.Tree.{depth_t, depth_c, depth_end, depth_s}
use Rattle.refal_ast.specs.Flatten.{Flat, mark, name_of, flat_entry}
use Rattle.refal_parser.specs.Machine.{Heading, Begun, Argument, Block, body, in_condition, in_ending, Place, pattern, argument, matching, result, ending, in_bracket, in_call}
use Rattle.refal_parser.specs.Machine.{State, outside, wants_name, wants_more, named, entered, headed, between, within, calling, matched, conditioned, equated, blocked, ended}
use Rattle.refal_demands.proofs.Flats.{flat_t, flat_c, flat_end, flat_s, flat_n}

-- a heading; a sentence so far, after those before it; the argument of a condition and of an ending block, with its `:`
abbrev pub read_h : Heading → List Flat → List Flat
read_h h l = flat_entry h.entry ++ (name_of h.start h.len ∷ l)

abbrev pub read_s : Begun → List Flat → List Flat
read_s r l = flat_s r.before (flat_t r.pattern (flat_c r.conditions l))

abbrev pub read_g : Begun → Argument → List Flat → List Flat
read_g r g l = read_s r (mark tok_comma ∷ flat_t g.terms (mark tok_colon ∷ l))

abbrev pub read_e : Begun → Argument → List Flat → List Flat
read_e r g l = read_s r (mark tok_equals ∷ mark tok_comma ∷ flat_t g.terms (mark tok_colon ∷ l))

abbrev pub read_b : Block → List Flat → List Flat
read_b (body h) l = read_h h (mark tok_l_brace ∷ l)
read_b (in_condition b r o g) l = read_b b (read_g r g (mark tok_l_brace ∷ l))
read_b (in_ending b r g) l = read_b b (read_e r g (mark tok_l_brace ∷ l))

abbrev pub read_x : Place → List Flat → List Flat
read_x (pattern b s a) l = read_b b (flat_s s l)
read_x (argument b r o) l = read_b b (read_s r (mark tok_comma ∷ l))
read_x (matching b r o g) l = read_b b (read_g r g l)
read_x (result b r q) l = read_b b (read_s r (mark tok_equals ∷ l))
read_x (ending b r) l = read_b b (read_s r (mark tok_equals ∷ mark tok_comma ∷ l))
read_x (in_bracket c f a) l = read_x c (flat_t f (mark tok_l_paren ∷ l))
read_x (in_call c f a s n) l = read_x c (flat_t f (mark tok_l_angle ∷ name_of s n ∷ l))

abbrev pub read : State → List Flat → List Flat
read outside l = l
read (wants_name a) l = mark tok_extern ∷ l
read (wants_more a ns) l = mark tok_extern ∷ flat_n ns (mark tok_comma ∷ l)
read (named a ns) l = mark tok_extern ∷ flat_n ns l
read (entered a) l = mark tok_entry ∷ l
read (headed h) l = read_h h l
read (between d b s) l = read_b b (flat_s s l)
read (within d c f) l = read_x c (flat_t f l)
read (calling d c f a) l = read_x c (flat_t f (mark tok_l_angle ∷ l))
read (matched d b r o g) l = read_b b (read_g r g l)
read (conditioned d b r) l = read_b b (read_s r l)
read (equated d b r q) l = read_b b (read_s r (mark tok_equals ∷ l))
read (blocked d b r g) l = read_b b (read_e r g l)
read (ended d b r z e) l = read_b b (read_s r (mark tok_equals ∷ flat_end z l))

-- of L levels d are left: each part is no deeper than the levels left where it stands
pub record Deep (d : ℕ) (r : Begun) : Type 0 where
  pub sentences : depth_s r.before ≤ d
  pub pattern : depth_t r.pattern ≤ d
  pub conditions : depth_c r.conditions ≤ d

abbrev pub OkB : ℕ → ℕ → Block → Type 0
OkB L d (body h) = d ≡ L
OkB L d (in_condition b r o g) = Deep (suc d) r × (depth_t g.terms ≤ suc d) × OkB L (suc d) b
OkB L d (in_ending b r g) = Deep (suc d) r × (depth_t g.terms ≤ suc d) × OkB L (suc d) b

abbrev pub OkX : ℕ → ℕ → Place → Type 0
OkX L d (pattern b s a) = (depth_s s ≤ d) × OkB L d b
OkX L d (argument b r o) = Deep d r × OkB L d b
OkX L d (matching b r o g) = Deep d r × (depth_t g.terms ≤ d) × OkB L d b
OkX L d (result b r q) = Deep d r × OkB L d b
OkX L d (ending b r) = Deep d r × OkB L d b
OkX L d (in_bracket c f a) = (depth_t f ≤ suc d) × OkX L (suc d) c
OkX L d (in_call c f a s n) = (depth_t f ≤ suc d) × OkX L (suc d) c

-- nothing to say of a state in which nothing can be open
pub data Any : Type 0 where
  any : Any

abbrev pub Ok : ℕ → State → Type 0
Ok L outside = Any
Ok L (wants_name a) = Any
Ok L (wants_more a ns) = Any
Ok L (named a ns) = Any
Ok L (entered a) = Any
Ok L (headed h) = Any
Ok L (between d b s) = (depth_s s ≤ d) × OkB L d b
Ok L (within d c f) = (depth_t f ≤ d) × OkX L d c
Ok L (calling d c f a) = (depth_t f ≤ suc d) × OkX L (suc d) c
Ok L (matched d b r o g) = Deep d r × (depth_t g.terms ≤ d) × OkB L d b
Ok L (conditioned d b r) = Deep d r × OkB L d b
Ok L (equated d b r q) = Deep d r × OkB L d b
Ok L (blocked d b r g) = Deep d r × (depth_t g.terms ≤ d) × OkB L d b
Ok L (ended d b r z e) = Deep d r × (depth_end z ≤ d) × OkB L d b
