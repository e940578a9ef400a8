-- The rows of document 01's worked table hold, by computing the definitions.
use mathlib.Core.Path.{refl}
use Rattle.refal_demands.specs.TreeLines.{digits, row_lines}
use Rattle.refal_demands.specs.Table.{AllHold, table}
use Rattle.refal_ast.specs.Tokens.{tokens_of}
use Rattle.refal_ast.specs.Check.{ok_tokens, well_formed}
use Rattle.refal_ast.specs.Tree.{size_t, size_c, size_s, size_n, size_p}
use Rattle.refal_ast.specs.Encode.{enc_t, enc_c, enc_s, enc_n, enc_p}
use Rattle.refal_text.specs.Utf8.{decode, well_to}
use Rattle.refal_lexer.specs.Blanks.{close_to}
use Rattle.refal_lexer.specs.Literals.{lit_char, lit_from, char_tokens}
use Rattle.refal_lexer.specs.Stars.{only_white}
use Rattle.refal_lexer.specs.Source.{lex01}
use Rattle.refal_parser.specs.Machine.{run}
use Rattle.refal_parser.specs.Parse.{parsed}
use Rattle.refal_ast.specs.Flatten.{flatten_t, flatten_c, flatten_s, flatten_p}
use Rattle.refal_ast.specs.Nodes.{nodes_of}
use Rattle.refal_tree.specs.Forest.{size_g}
use Rattle.refal_tree.specs.Ranges.{forest_in, forest_at, forest_of}
use Rattle.refal_tree.specs.Rules.{ok_g}
use Rattle.refal_tree.specs.Typed.{get_t, get_b, get_sentence, get_tail, get_block, get_condition, get_right, get_n, get_ns, get_p}
use Rattle.refal_tree.specs.Lawful.{tree_of, lawful}
use Rattle.refal_spelling.specs.Spell.{body, spelling, text}
use Rattle.refal_spelling.specs.Spells.{spells}
use Rattle.refal_spelling.specs.Spellings.{row_spelled, nodes_spelled, all_spelled}
use Rattle.refal_writer.specs.Write.{written, write_answer, write_bytes}

pub table_holds : AllHold table
unfolding table tokens_of ok_tokens well_formed size_t size_c size_s size_n size_p enc_t enc_c enc_s enc_n enc_p run parsed decode well_to close_to lit_char lit_from
    char_tokens lex01 only_white flatten_t flatten_c flatten_s flatten_p size_g nodes_of forest_in forest_at forest_of ok_g get_t get_b get_sentence get_tail get_block get_condition get_right get_n
    get_ns get_p tree_of lawful body spelling text spells row_spelled nodes_spelled all_spelled written write_answer write_bytes digits row_lines
table_holds = refl
