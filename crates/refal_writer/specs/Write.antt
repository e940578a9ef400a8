-- What `write` answers, and what it leaves in the bytes lent, for the node words w, the source src and the bytes `old` (document 01 "Writing").
-- `lawful` is the test for 40 as a check of rows; that it holds exactly of the rows of a tree, of one tree only, is proved beside it (`lawful_is`,
-- `tree_of` and `of_Tree` of refal_tree), so the check itself need not be believed.
use Rattle.std.specs.Prelude.{ℕ, Bool, not, ◌&&◌, List, [], ◌++◌, leb, length, drop, replicate}
use Rattle.std.proofs.Math.Option.{Option, none, some}
use Rattle.refal_ast.specs.Answers.{refusal, pick_answer, Answer, Done, Refused}
use Rattle.refal_ast.specs.Flatten.{flatten_p}
use Rattle.refal_ast.specs.Tree.{Program}
use Rattle.refal_ast.specs.Limits.{most_bytes, most_levels}
use Rattle.refal_tree.specs.Lawful.{tree_of, lawful}
use Rattle.refal_spelling.specs.Spell.{views, text}
use Rattle.refal_spelling.specs.Spellings.{all_spelled}

-- the text of a tree: each flattened token as spelled in the source, then one space
abbrev pub tree_text : List ℕ → Option Program → List ℕ
tree_text src none = []
tree_text src (some t) = text (views src (flatten_p t))

-- the text of the tree that the words are
unfoldable pub written : List ℕ → List ℕ → List ℕ
written w src = tree_text src (tree_of most_levels w)

-- a text of n bytes fits into so many, and is not over 16,777,216
abbrev pub text_fits : ℕ → ℕ → Bool
text_fits n room = leb n room && leb n most_bytes

-- a refusal that shows only what it needs
abbrev pub refuse : ℕ → ℕ → Answer
refuse number need = Refused (refusal number 0 0 0 0 need)

-- 40, then 41, then 42
unfoldable pub write_answer : List ℕ → List ℕ → List ℕ → Answer
write_answer w src old =
    pick_answer (not (lawful w)) (refuse 40 0)
    (pick_answer (not (all_spelled src w)) (refuse 41 0)
    (pick_answer (text_fits (length (written w src)) (length old)) (Done (length (written w src)))
    (refuse 42 (length (written w src)))))

-- on success the text, and behind it what was there; on refusal zeros
abbrev pub left : Answer → List ℕ → List ℕ → List ℕ
left (Done n) t old = t ++ drop n old
left (Refused r) t old = replicate (length old) 0

unfoldable pub write_bytes : List ℕ → List ℕ → List ℕ → List ℕ
write_bytes w src old = left (write_answer w src old) (written w src) old
