-- Small files, whose answers compute: trees of one function over a source of indices.
use Rattle.std.specs.Prelude.{ℕ, Bool, true, false, List, [], ◌∷◌, ◌≡◌, refl, Option, None, Some}
use Rattle.refal_ast.specs.Tree.{variable, Term, leaf, bracket, call, Terms, t0, t_more, r_terms, r_block, condition, Conditions, c0, c_more}
use Rattle.refal_ast.specs.Tree.{End, e_terms, e_block, Sentence, sentence, s0, s_more, Body, b_all, function, Program, p0, p_more}
use Rattle.refal_ast.specs.Encode.{enc_p}
use Rattle.refal_ast.specs.declared.tree.VariableKind.TheVariants.{Symbol as kind_s, Term as kind_t, Expression as kind_e}
use Rattle.refal_ast.specs.Encode.{enc_b, enc_t}
use Rattle.refal_ast.specs.Tree.{size_p, size_b, size_t}
use Rattle.refal_ast.specs.Names.{canonical_index, same_list}
use Rattle.refal_bound.specs.Bound.{scope, is_use, is_variable, bound_by, is_unbound, first_unbound}
use Rattle.refal_bound.specs.Walks.{variables, binds, is_bound, all_bound, passes_body, passes}

-- the source `aA1x-_`, in which the indices are: `a`, `A`, `1`, `1x`, and `-` and `_`
abbrev src : List ℕ
src = 97 ∷ 65 ∷ 49 ∷ 120 ∷ 45 ∷ 95 ∷ []

abbrev e_a : Term
e_a = leaf (variable kind_e 0 1) 0 0

abbrev e_A : Term
e_A = leaf (variable kind_e 1 1) 0 0

abbrev e_1 : Term
e_1 = leaf (variable kind_e 2 1) 0 0

abbrev e_1x : Term
e_1x = leaf (variable kind_e 2 2) 0 0

abbrev s_1 : Term
s_1 = leaf (variable kind_s 2 1) 0 0

abbrev t_1 : Term
t_1 = leaf (variable kind_t 2 1) 0 0

abbrev e_hyphen : Term
e_hyphen = leaf (variable kind_e 4 1) 0 0

abbrev e_underscore : Term
e_underscore = leaf (variable kind_e 5 1) 0 0

abbrev none : Terms
none = t0

abbrev of : Term → Terms
of x = t_more t0 x

abbrev rule : Terms → Conditions → End → Sentence
rule f cs x = sentence 0 f cs x 0

abbrev rules : Sentence → Body
rules x = b_all (s_more s0 x)

abbrev file : Body → Program
file v = p_more p0 (function 0 false 0 1 v 0)

-- what is found, and whether the walk passes
abbrev Finds : Program → Option ℕ → Bool → Type 0
Finds t row pass = (first_unbound (enc_p t 0) src ≡ row) × (passes src t ≡ pass)

-- F{e.1=e.1;}
own : Finds (file (rules (rule (of e_1) c0 (e_terms (of e_1))))) None true
unfolding first_unbound is_unbound is_use bound_by is_variable scope enc_p enc_b enc_t size_p size_b size_t canonical_index same_list passes passes_body variables binds is_bound all_bound
own = (refl, refl)

-- F{=e.1;}
unbound : Finds (file (rules (rule none c0 (e_terms (of e_1))))) (Some 4) false
unfolding first_unbound is_unbound is_use bound_by is_variable scope enc_p enc_b enc_t size_p size_b size_t canonical_index same_list passes passes_body variables binds is_bound all_bound
unbound = (refl, refl)

-- F{e.1=;=e.1;}
sentence_ends : Finds (file (b_all (s_more (s_more s0 (rule (of e_1) c0 (e_terms none))) (rule none c0 (e_terms (of e_1)))))) (Some 8) false
unfolding first_unbound is_unbound is_use bound_by is_variable scope enc_p enc_b enc_t size_p size_b size_t canonical_index same_list passes passes_body variables binds is_bound all_bound
sentence_ends = (refl, refl)

-- F{e.a=e.A;}
equal_by_case : Finds (file (rules (rule (of e_a) c0 (e_terms (of e_A))))) None true
unfolding first_unbound is_unbound is_use bound_by is_variable scope enc_p enc_b enc_t size_p size_b size_t canonical_index same_list passes passes_body variables binds is_bound all_bound
equal_by_case = (refl, refl)

-- F{e.-=e._;}
hyphen_is_no_underscore : Finds (file (rules (rule (of e_hyphen) c0 (e_terms (of e_underscore))))) (Some 5) false
unfolding first_unbound is_unbound is_use bound_by is_variable scope enc_p enc_b enc_t size_p size_b size_t canonical_index same_list passes passes_body variables binds is_bound all_bound
hyphen_is_no_underscore = (refl, refl)

-- F{s.1=t.1;}
letters_differ : Finds (file (rules (rule (of s_1) c0 (e_terms (of t_1))))) (Some 5) false
unfolding first_unbound is_unbound is_use bound_by is_variable scope enc_p enc_b enc_t size_p size_b size_t canonical_index same_list passes passes_body variables binds is_bound all_bound
letters_differ = (refl, refl)

-- F{e.1=e.1x;}
longer_index : Finds (file (rules (rule (of e_1) c0 (e_terms (of e_1x))))) (Some 5) false
unfolding first_unbound is_unbound is_use bound_by is_variable scope enc_p enc_b enc_t size_p size_b size_t canonical_index same_list passes passes_body variables binds is_bound all_bound
longer_index = (refl, refl)

-- F{<F (e.1)>=(<F e.1>);}
in_calls_and_brackets : Finds (file (rules (rule (of (call 0 0 1 (of (bracket 0 (of e_1) 0)) 0)) c0 (e_terms (of (bracket 0 (of (call 0 0 1 (of e_1) 0)) 0)))))) None true
unfolding first_unbound is_unbound is_use bound_by is_variable scope enc_p enc_b enc_t size_p size_b size_t canonical_index same_list passes passes_body variables binds is_bound all_bound
in_calls_and_brackets = (refl, refl)

-- F{,:e.1=e.1;}
condition_binds : Finds (file (rules (rule none (c_more c0 (condition 0 none (r_terms (of e_1)) 0)) (e_terms (of e_1))))) None true
unfolding first_unbound is_unbound is_use bound_by is_variable scope enc_p enc_b enc_t size_p size_b size_t canonical_index same_list passes passes_body variables binds is_bound all_bound
condition_binds = (refl, refl)

-- F{,e.1:e.1=;}
condition_before : Finds (file (rules (rule none (c_more c0 (condition 0 (of e_1) (r_terms (of e_1)) 0)) (e_terms none)))) (Some 5) false
unfolding first_unbound is_unbound is_use bound_by is_variable scope enc_p enc_b enc_t size_p size_b size_t canonical_index same_list passes passes_body variables binds is_bound all_bound
condition_before = (refl, refl)

-- F{,e.1:e.a,:e.1=;}
later_condition : Finds (file (rules (rule none (c_more (c_more c0 (condition 0 (of e_1) (r_terms (of e_a)) 0)) (condition 0 none (r_terms (of e_1)) 0)) (e_terms none)))) (Some 5) false
unfolding first_unbound is_unbound is_use bound_by is_variable scope enc_p enc_b enc_t size_p size_b size_t canonical_index same_list passes passes_body variables binds is_bound all_bound
later_condition = (refl, refl)

-- F{,:{e.1=e.1;}=e.1;}
block_of_condition : Finds (file (rules (rule none (c_more c0 (condition 0 none (r_block 0 (rules (rule (of e_1) c0 (e_terms (of e_1)))) 0) 0)) (e_terms (of e_1))))) (Some 12) false
unfolding first_unbound is_unbound is_use bound_by is_variable scope enc_p enc_b enc_t size_p size_b size_t canonical_index same_list passes passes_body variables binds is_bound all_bound
block_of_condition = (refl, refl)

-- F{e.1,:{e.a=e.1;}=;}
block_sees_outer : Finds (file (rules (rule (of e_1) (c_more c0 (condition 0 none (r_block 0 (rules (rule (of e_a) c0 (e_terms (of e_1)))) 0) 0)) (e_terms none)))) None true
unfolding first_unbound is_unbound is_use bound_by is_variable scope enc_p enc_b enc_t size_p size_b size_t canonical_index same_list passes passes_body variables binds is_bound all_bound
block_sees_outer = (refl, refl)

-- F{e.1=,e.1:{e.a=,e.a:{s.1=e.1 e.A s.1;};};}
nested_blocks : Finds (file (rules (rule (of e_1) c0 (e_block 0 (of e_1) (rules (rule (of e_a) c0 (e_block 0 (of e_a) (rules (rule (of s_1) c0 (e_terms (t_more (t_more (of e_1) e_A) s_1)))) 0))) 0)))) None true
unfolding first_unbound is_unbound is_use bound_by is_variable scope enc_p enc_b enc_t size_p size_b size_t canonical_index same_list passes passes_body variables binds is_bound all_bound
nested_blocks = (refl, refl)

-- F{e.1=,e.1:{e.a=;=e.a;};}
sibling_sentence : Finds (file (rules (rule (of e_1) c0 (e_block 0 (of e_1) (b_all (s_more (s_more s0 (rule (of e_a) c0 (e_terms none))) (rule none c0 (e_terms (of e_a))))) 0)))) (Some 14) false
unfolding first_unbound is_unbound is_use bound_by is_variable scope enc_p enc_b enc_t size_p size_b size_t canonical_index same_list passes passes_body variables binds is_bound all_bound
sibling_sentence = (refl, refl)

-- F{=,e.1:{e.1=;};}
argument : Finds (file (rules (rule none c0 (e_block 0 (of e_1) (rules (rule (of e_1) c0 (e_terms none))) 0)))) (Some 5) false
unfolding first_unbound is_unbound is_use bound_by is_variable scope enc_p enc_b enc_t size_p size_b size_t canonical_index same_list passes passes_body variables binds is_bound all_bound
argument = (refl, refl)

-- F{e.1=;}G{=e.1;}
functions_apart : Finds (p_more (file (rules (rule (of e_1) c0 (e_terms none)))) (function 0 false 0 1 (rules (rule none c0 (e_terms (of e_1)))) 0)) (Some 9) false
unfolding first_unbound is_unbound is_use bound_by is_variable scope enc_p enc_b enc_t size_p size_b size_t canonical_index same_list passes passes_body variables binds is_bound all_bound
functions_apart = (refl, refl)
