-- Small modules, with their texts and their trees, that show what arrays, texts and their copies come to, and the trap of indices.
use Rattle.std.specs.Prelude.{codes, [], ◌∷◌, None, Some, pos}
use Rattle.oberon_tree.specs.declared.expression.Relator.TheVariants as relators
use Rattle.oberon_tree.specs.declared.expression.Sign.TheVariants as signs
use Rattle.oberon_tree.specs.declared.expression.AddOperator.TheVariants as adds
use Rattle.oberon_tree.specs.declared.expression.MulOperator.TheVariants as muls
use Rattle.oberon_tree.specs.declared.statement.LabelValue.TheVariants as labels
use Rattle.oberon_tree.specs.Trees.{no_relation, relation_of, expr_of, simple_of, no_addends, more_addends, term_of, no_multipliers, more_multipliers, set_factor, designator_factor, set_of, some_elements, no_more_elements, more_elements, element_of, no_upper, upper_of, designator_of, no_selectors, more_selectors, field_selector, index_selector, call_selector, no_arguments, some_arguments, exprs_of, no_more_exprs, more_exprs, named_type, array_type, record_type, record_of, some_fields, no_more_fields, more_fields, fields_of, step_of, statements_of, no_more_statements, more_statements, assign_statement, call_statement, if_statement, case_statement, for_statement, if_of, guarded_of, no_elsifs, no_else, case_of, labelled_arm, no_more_arms, more_arms, for_of}
use Rattle.run_rules.specs.Linked.{Source}
use Rattle.run_rows.specs.Parts.{at, ident, own, named, just, plain, alone, number, string, name}

abbrev pub copied_and_compared_texts : Source
copied_and_compared_texts = record {
  stem = codes "A";
  text = codes "MODULE A; IMPORT Out; VAR s, t: ARRAY 4 OF CHAR; i: INTEGER; m: SET; PROCEDURE Len(a: ARRAY OF CHAR): INTEGER; RETURN LEN(a) END Len; BEGIN s := \"abc\"; t := s; t[1] := \"x\"; IF s < t THEN Out.String(t) END; Out.Int(Len(\"hey\") + Len(s), 3); FOR i := 6 TO 0 BY -3 DO CASE i OF 0, 3: INCL(m, i) | 4..9: m := m + {1, 8..9} END END; Out.Int(ORD(m), 0) END A.";
  tree =
      record {
        word = (at 0 6);
        name = (ident 7 (codes "A"));
        semicolon = (at 8 9);
        imports = (Some (record {
          word = (at 10 16);
          first = (record {
            name
                = (ident 17 (codes "Out"));
            alias = None;
          });
          rest = [];
          semicolon = (at 20 21);
        }));
        declarations = (record {
          constants = None;
          types = None;
          variables = (Some (record {
            word = (at 22 25);
            items = ((record {
              names = (record {
                first = (own (ident 26 (codes "s")));
                rest = ((record {
                  comma
                      = (at 27 28);
                  ident = (own (ident 29 (codes "t")));
                }) ∷ []);
              });
              colon = (at 30 31);
              of_type = (array_type (at 32 37) (exprs_of (alone (number 38
                  39 (pos 4))) no_more_exprs) (at 40 42) (named_type (named (ident 43 (codes "CHAR")))));
              semicolon = (at 47 48);
            }) ∷ (record {
              names = (record {
                first = (own (ident 49 (codes "i")));
                rest = [];
              });
              colon = (at 50 51);
              of_type = (named_type (named (ident 52 (codes "INTEGER"))));
              semicolon =
                  (at 59 60);
            }) ∷ (record {
              names = (record { first = (own (ident 61 (codes "m"))); rest = [] });
              colon = (at 62 63);
              of_type = (named_type (named
                  (ident 64 (codes "SET"))));
              semicolon = (at 67 68);
            }) ∷ []);
          }));
        });
        procedures = ((record {
          procedure = (record {
            word = (at 69 78);
            name = (own
                (ident 79 (codes "Len")));
            formals = (Some (record {
              opening = (at 82 83);
              sections = (Some (record {
                first = (record {
                  by_var = None;
                  names =
                      (record { first = (ident 83 (codes "a")); rest = [] });
                  colon = (at 84 85);
                  of_type = (record {
                    opens = ((record {
                      word = (at 86 91);
                      of = (at 92
                          94);
                    }) ∷ []);
                    name = (named (ident 95 (codes "CHAR")));
                  });
                });
                rest = [];
              }));
              closing = (at 99 100);
              result_type = (Some (record {
                colon = (at 100
                    101);
                name = (named (ident 102 (codes "INTEGER")));
              }));
            }));
            semicolon = (at 109 110);
            locals = (record { constants = None; variables = None });
            body = None;
            returns = (Some (record {
              word = (at 111 117);
              value = (alone (designator_factor (designator_of (ident 118 (codes "LEN"))
                  (more_selectors (call_selector (at 121 122) (some_arguments (exprs_of (alone (name 122 (codes "a"))) no_more_exprs)) (at 123 124))
                  no_selectors))));
            }));
            end = (at 125 128);
            end_name = (ident 129 (codes "Len"));
          });
          semicolon = (at 132 133);
        }) ∷ []);
        body = (Some (record {
          word
              = (at 134 139);
          statements = (statements_of (assign_statement (designator_of (ident 140 (codes "s")) no_selectors) (at 142 144) (alone (string
              145 150 (codes "abc")))) (more_statements (at 150 151) (assign_statement (designator_of (ident 152 (codes "t")) no_selectors) (at 154 156) (alone
              (name 157 (codes "s")))) (more_statements (at 158 159) (assign_statement (designator_of (ident 160 (codes "t")) (more_selectors (index_selector
              (at 161 162) (exprs_of (alone (number 162 163 (pos 1))) no_more_exprs) (at 163 164)) no_selectors)) (at 165 167) (alone (string 168 171 (codes
              "x")))) (more_statements (at 171 172) (if_statement (if_of (guarded_of (at 173 175) (expr_of (plain (name 176 (codes "s"))) (relation_of
              relators.Less (at 178 179) (plain (name 180 (codes "t"))))) (at 182 186) (statements_of (call_statement (designator_of (ident 187 (codes "Out"))
              (more_selectors (field_selector (record { period = (at 190 191); name = (ident 191 (codes "String")) })) (more_selectors (call_selector (at 197
              198) (some_arguments (exprs_of (alone (name 198 (codes "t"))) no_more_exprs)) (at 199 200)) no_selectors)))) no_more_statements)) no_elsifs
              no_else (at 201 204))) (more_statements (at 204 205) (call_statement (designator_of (ident 206 (codes "Out")) (more_selectors (field_selector
              (record { period = (at 209 210); name = (ident 210 (codes "Int")) })) (more_selectors (call_selector (at 213 214) (some_arguments (exprs_of
              (expr_of (simple_of None (just (designator_factor (designator_of (ident 214 (codes "Len")) (more_selectors (call_selector (at 217 218)
              (some_arguments (exprs_of (alone (string 218 223 (codes "hey"))) no_more_exprs)) (at 223 224)) no_selectors)))) (more_addends adds.Add (at 225
              226) (just (designator_factor (designator_of (ident 227 (codes "Len")) (more_selectors (call_selector (at 230 231) (some_arguments (exprs_of
              (alone (name 231 (codes "s"))) no_more_exprs)) (at 232 233)) no_selectors)))) no_addends)) no_relation) (more_exprs (at 233 234) (alone (number
              235 236 (pos 3))) no_more_exprs))) (at 236 237)) no_selectors)))) (more_statements (at 237 238) (for_statement (for_of (at 239 242) (ident 243
              (codes "i")) (at 245 247) (alone (number 248 249 (pos 6))) (at 250 252) (alone (number 253 254 (pos 0))) (step_of (at 255 257) (expr_of
              (simple_of (Some (record { sign = signs.Minus; span = (at 258 259) })) (just (number 259 260 (pos 3))) no_addends) no_relation)) (at 261 263)
              (statements_of (case_statement (case_of (at 264 268) (alone (name 269 (codes "i"))) (at 271 273) (labelled_arm (record {
                first = (record {
                  first
                      = (labels.Integer (record { span = (at 274 275); value = (pos 0) }));
                  upper = None;
                });
                rest = ((record {
                  comma = (at 275 276);
                  label = (record {
                    first = (labels.Integer (record { span = (at 277 278); value = (pos 3) }));
                    upper = None;
                  });
                }) ∷ []);
              }) (at 278 279) (statements_of
              (call_statement (designator_of (ident 280 (codes "INCL")) (more_selectors (call_selector (at 284 285) (some_arguments (exprs_of (alone (name 285
              (codes "m"))) (more_exprs (at 286 287) (alone (name 288 (codes "i"))) no_more_exprs))) (at 289 290)) no_selectors))) no_more_statements))
              (more_arms (at 291 292) (labelled_arm (record {
                first = (record {
                  first = (labels.Integer (record { span = (at 293 294); value = (pos 4) }));
                  upper = (Some (record { dots = (at 294 296); last = (labels.Integer (record { span = (at 296 297); value = (pos 9) })) }));
                });
                rest = [];
              }) (at
              297 298) (statements_of (assign_statement (designator_of (ident 299 (codes "m")) no_selectors) (at 301 303) (expr_of (simple_of None (just (name
              304 (codes "m"))) (more_addends adds.Add (at 306 307) (just (set_factor (set_of (at 308 309) (some_elements (element_of (alone (number 309 310
              (pos 1))) no_upper) (more_elements (at 310 311) (element_of (alone (number 312 313 (pos 8))) (upper_of (at 313 315) (alone (number 315 316 (pos
              9))))) no_more_elements)) (at 316 317)))) no_addends)) no_relation)) no_more_statements)) no_more_arms) (at 318 321))) no_more_statements) (at
              322 325))) (more_statements (at 325 326) (call_statement (designator_of (ident 327 (codes "Out")) (more_selectors (field_selector (record {
                period = (at 330 331);
                name = (ident 331 (codes "Int"));
              })) (more_selectors (call_selector (at 334 335) (some_arguments (exprs_of (alone
              (designator_factor (designator_of (ident 335 (codes "ORD")) (more_selectors (call_selector (at 338 339) (some_arguments (exprs_of (alone (name
              339 (codes "m"))) no_more_exprs)) (at 340 341)) no_selectors)))) (more_exprs (at 341 342) (alone (number 343 344 (pos 0))) no_more_exprs))) (at
              344 345)) no_selectors)))) no_more_statements)))))));
        }));
        end = (at 346 349);
        end_name = (ident 350 (codes "A"));
        period = (at 351 352);
      };
}

abbrev pub texts_end_at_zero : Source
texts_end_at_zero = record {
  stem = codes "A";
  text = codes "MODULE A; IMPORT Out; VAR t: ARRAY 6 OF CHAR; BEGIN t := \"abc\"; t := \"x\"; Out.String(t); Out.Int(LEN(t), 0); IF t[2] = 0X THEN Out.Char(\"!\") END; IF t < \"xa\" THEN Out.Char(\"<\") END; IF \"x\" = t THEN Out.Char(\"=\") END; Out.String(\"\") END A.";
  tree =
      record {
        word = (at 0 6);
        name = (ident 7 (codes "A"));
        semicolon = (at 8 9);
        imports = (Some (record {
          word = (at 10 16);
          first = (record {
            name
                = (ident 17 (codes "Out"));
            alias = None;
          });
          rest = [];
          semicolon = (at 20 21);
        }));
        declarations = (record {
          constants = None;
          types = None;
          variables = (Some (record {
            word = (at 22 25);
            items = ((record {
              names = (record { first = (own (ident 26 (codes "t"))); rest = [] });
              colon =
                  (at 27 28);
              of_type = (array_type (at 29 34) (exprs_of (alone (number 35 36 (pos 6))) no_more_exprs) (at 37 39) (named_type (named (ident 40
                  (codes "CHAR")))));
              semicolon = (at 44 45);
            }) ∷ []);
          }));
        });
        procedures = [];
        body = (Some (record {
          word = (at 46 51);
          statements =
              (statements_of (assign_statement (designator_of (ident 52 (codes "t")) no_selectors) (at 54 56) (alone (string 57 62 (codes "abc"))))
              (more_statements (at 62 63) (assign_statement (designator_of (ident 64 (codes "t")) no_selectors) (at 66 68) (alone (string 69 72 (codes "x"))))
              (more_statements (at 72 73) (call_statement (designator_of (ident 74 (codes "Out")) (more_selectors (field_selector (record {
                period = (at 77
                    78);
                name = (ident 78 (codes "String"));
              })) (more_selectors (call_selector (at 84 85) (some_arguments (exprs_of (alone (name 85 (codes "t")))
              no_more_exprs)) (at 86 87)) no_selectors)))) (more_statements (at 87 88) (call_statement (designator_of (ident 89 (codes "Out")) (more_selectors
              (field_selector (record { period = (at 92 93); name = (ident 93 (codes "Int")) })) (more_selectors (call_selector (at 96 97) (some_arguments
              (exprs_of (alone (designator_factor (designator_of (ident 97 (codes "LEN")) (more_selectors (call_selector (at 100 101) (some_arguments (exprs_of
              (alone (name 101 (codes "t"))) no_more_exprs)) (at 102 103)) no_selectors)))) (more_exprs (at 103 104) (alone (number 105 106 (pos 0)))
              no_more_exprs))) (at 106 107)) no_selectors)))) (more_statements (at 107 108) (if_statement (if_of (guarded_of (at 109 111) (expr_of (plain
              (designator_factor (designator_of (ident 112 (codes "t")) (more_selectors (index_selector (at 113 114) (exprs_of (alone (number 114 115 (pos 2)))
              no_more_exprs) (at 115 116)) no_selectors)))) (relation_of relators.Equal (at 117 118) (plain (string 119 121 (0 ∷ []))))) (at 122 126)
              (statements_of (call_statement (designator_of (ident 127 (codes "Out")) (more_selectors (field_selector (record {
                period = (at 130 131);
                name =
                    (ident 131 (codes "Char"));
              })) (more_selectors (call_selector (at 135 136) (some_arguments (exprs_of (alone (string 136 139 (codes "!")))
              no_more_exprs)) (at 139 140)) no_selectors)))) no_more_statements)) no_elsifs no_else (at 141 144))) (more_statements (at 144 145) (if_statement
              (if_of (guarded_of (at 146 148) (expr_of (plain (name 149 (codes "t"))) (relation_of relators.Less (at 151 152) (plain (string 153 157 (codes
              "xa"))))) (at 158 162) (statements_of (call_statement (designator_of (ident 163 (codes "Out")) (more_selectors (field_selector (record {
                period =
                    (at 166 167);
                name = (ident 167 (codes "Char"));
              })) (more_selectors (call_selector (at 171 172) (some_arguments (exprs_of (alone (string 172 175
              (codes "<"))) no_more_exprs)) (at 175 176)) no_selectors)))) no_more_statements)) no_elsifs no_else (at 177 180))) (more_statements (at 180 181)
              (if_statement (if_of (guarded_of (at 182 184) (expr_of (plain (string 185 188 (codes "x"))) (relation_of relators.Equal (at 189 190) (plain (name
              191 (codes "t"))))) (at 193 197) (statements_of (call_statement (designator_of (ident 198 (codes "Out")) (more_selectors (field_selector (record
              { period = (at 201 202); name = (ident 202 (codes "Char")) })) (more_selectors (call_selector (at 206 207) (some_arguments (exprs_of (alone
              (string 207 210 (codes "="))) no_more_exprs)) (at 210 211)) no_selectors)))) no_more_statements)) no_elsifs no_else (at 212 215)))
              (more_statements (at 215 216) (call_statement (designator_of (ident 217 (codes "Out")) (more_selectors (field_selector (record {
                period = (at 220
                    221);
                name = (ident 221 (codes "String"));
              })) (more_selectors (call_selector (at 227 228) (some_arguments (exprs_of (alone (string 228 230 []))
              no_more_exprs)) (at 230 231)) no_selectors)))) no_more_statements))))))));
        }));
        end = (at 232 235);
        end_name = (ident 236 (codes "A"));
        period =
            (at 237 238);
      };
}

abbrev pub left_text_is_read_first : Source
left_text_is_read_first = record {
  stem = codes "A";
  text = codes "MODULE A; IMPORT Out; VAR s: ARRAY 4 OF CHAR; t: ARRAY 4 OF CHAR; PROCEDURE F(): INTEGER; BEGIN s := \"zz\" RETURN 0 END F; BEGIN s := \"aa\"; t := \"ab\"; IF s < t THEN Out.Char(\"1\") END; s := \"aa\"; IF s[F()] = \"z\" THEN Out.Char(\"2\") END END A.";
  tree =
      record {
        word = (at 0 6);
        name = (ident 7 (codes "A"));
        semicolon = (at 8 9);
        imports = (Some (record {
          word = (at 10 16);
          first = (record {
            name
                = (ident 17 (codes "Out"));
            alias = None;
          });
          rest = [];
          semicolon = (at 20 21);
        }));
        declarations = (record {
          constants = None;
          types = None;
          variables = (Some (record {
            word = (at 22 25);
            items = ((record {
              names = (record { first = (own (ident 26 (codes "s"))); rest = [] });
              colon =
                  (at 27 28);
              of_type = (array_type (at 29 34) (exprs_of (alone (number 35 36 (pos 4))) no_more_exprs) (at 37 39) (named_type (named (ident 40
                  (codes "CHAR")))));
              semicolon = (at 44 45);
            }) ∷ (record {
              names = (record { first = (own (ident 46 (codes "t"))); rest = [] });
              colon = (at 47
                  48);
              of_type = (array_type (at 49 54) (exprs_of (alone (number 55 56 (pos 4))) no_more_exprs) (at 57 59) (named_type (named (ident 60 (codes
                  "CHAR")))));
              semicolon = (at 64 65);
            }) ∷ []);
          }));
        });
        procedures = ((record {
          procedure = (record {
            word = (at 66 75);
            name = (own (ident 76
                (codes "F")));
            formals = (Some (record {
              opening = (at 77 78);
              sections = None;
              closing = (at 78 79);
              result_type = (Some (record {
                colon = (at
                    79 80);
                name = (named (ident 81 (codes "INTEGER")));
              }));
            }));
            semicolon = (at 88 89);
            locals = (record { constants = None; variables = None });
            body = (Some (record {
              word = (at 90 95);
              statements = (statements_of (assign_statement (designator_of (ident 96 (codes "s")) no_selectors) (at
                  98 100) (alone (string 101 105 (codes "zz")))) no_more_statements);
            }));
            returns = (Some (record {
              word = (at 106 112);
              value = (alone (number 113
                  114 (pos 0)));
            }));
            end = (at 115 118);
            end_name = (ident 119 (codes "F"));
          });
          semicolon = (at 120 121);
        }) ∷ []);
        body = (Some (record {
          word =
              (at 122 127);
          statements = (statements_of (assign_statement (designator_of (ident 128 (codes "s")) no_selectors) (at 130 132) (alone (string 133
              137 (codes "aa")))) (more_statements (at 137 138) (assign_statement (designator_of (ident 139 (codes "t")) no_selectors) (at 141 143) (alone
              (string 144 148 (codes "ab")))) (more_statements (at 148 149) (if_statement (if_of (guarded_of (at 150 152) (expr_of (plain (name 153 (codes
              "s"))) (relation_of relators.Less (at 155 156) (plain (name 157 (codes "t"))))) (at 159 163) (statements_of (call_statement (designator_of (ident
              164 (codes "Out")) (more_selectors (field_selector (record { period = (at 167 168); name = (ident 168 (codes "Char")) })) (more_selectors
              (call_selector (at 172 173) (some_arguments (exprs_of (alone (string 173 176 (codes "1"))) no_more_exprs)) (at 176 177)) no_selectors))))
              no_more_statements)) no_elsifs no_else (at 178 181))) (more_statements (at 181 182) (assign_statement (designator_of (ident 183 (codes "s"))
              no_selectors) (at 185 187) (alone (string 188 192 (codes "aa")))) (more_statements (at 192 193) (if_statement (if_of (guarded_of (at 194 196)
              (expr_of (plain (designator_factor (designator_of (ident 197 (codes "s")) (more_selectors (index_selector (at 198 199) (exprs_of (alone
              (designator_factor (designator_of (ident 199 (codes "F")) (more_selectors (call_selector (at 200 201) no_arguments (at 201 202)) no_selectors))))
              no_more_exprs) (at 202 203)) no_selectors)))) (relation_of relators.Equal (at 204 205) (plain (string 206 209 (codes "z"))))) (at 210 214)
              (statements_of (call_statement (designator_of (ident 215 (codes "Out")) (more_selectors (field_selector (record {
                period = (at 218 219);
                name =
                    (ident 219 (codes "Char"));
              })) (more_selectors (call_selector (at 223 224) (some_arguments (exprs_of (alone (string 224 227 (codes "2")))
              no_more_exprs)) (at 227 228)) no_selectors)))) no_more_statements)) no_elsifs no_else (at 229 232))) no_more_statements)))));
        }));
        end = (at 233
            236);
        end_name = (ident 237 (codes "A"));
        period = (at 238 239);
      };
}

abbrev pub copy_that_does_not_fit : Source
copy_that_does_not_fit = record {
  stem = codes "A";
  text = codes "MODULE A; VAR s, t: ARRAY 5 OF CHAR; BEGIN t := \"ab\"; s := t END A.";
  tree =
      record {
        word = (at 0 6);
        name = (ident 7 (codes "A"));
        semicolon = (at 8 9);
        imports = None;
        declarations = (record {
          constants = None;
          types =
              None;
          variables = (Some (record {
            word = (at 10 13);
            items = ((record {
              names = (record {
                first = (own (ident 14 (codes "s")));
                rest = ((record {
                  comma = (at 15 16);
                  ident = (own (ident 17 (codes "t")));
                }) ∷ []);
              });
              colon = (at 18 19);
              of_type = (array_type (at 20 25) (exprs_of (alone
                  (number 26 27 (pos 5))) no_more_exprs) (at 28 30) (named_type (named (ident 31 (codes "CHAR")))));
              semicolon = (at 35 36);
            }) ∷ []);
          }));
        });
        procedures = [];
        body = (Some (record {
          word = (at 37 42);
          statements = (statements_of (assign_statement (designator_of (ident 43 (codes "t"))
              no_selectors) (at 45 47) (alone (string 48 52 (codes "ab")))) (more_statements (at 52 53) (assign_statement (designator_of (ident 54 (codes "s"))
              no_selectors) (at 56 58) (alone (name 59 (codes "t")))) no_more_statements));
        }));
        end = (at 61 64);
        end_name = (ident 65 (codes "A"));
        period =
            (at 66 67);
      };
}

abbrev pub open_arrays_have_lengths : Source
open_arrays_have_lengths = record {
  stem = codes "A";
  text = codes "MODULE A; IMPORT Out; VAR d: ARRAY 2, 3 OF INTEGER; PROCEDURE S(a: ARRAY OF ARRAY OF INTEGER): INTEGER; RETURN LEN(a) * 10 + LEN(a[0]) END S; BEGIN Out.Int(S(d), 0) END A.";
  tree =
      record {
        word = (at 0 6);
        name = (ident 7 (codes "A"));
        semicolon = (at 8 9);
        imports = (Some (record {
          word = (at 10 16);
          first = (record {
            name
                = (ident 17 (codes "Out"));
            alias = None;
          });
          rest = [];
          semicolon = (at 20 21);
        }));
        declarations = (record {
          constants = None;
          types = None;
          variables = (Some (record {
            word = (at 22 25);
            items = ((record {
              names = (record { first = (own (ident 26 (codes "d"))); rest = [] });
              colon =
                  (at 27 28);
              of_type = (array_type (at 29 34) (exprs_of (alone (number 35 36 (pos 2))) (more_exprs (at 36 37) (alone (number 38 39 (pos 3)))
                  no_more_exprs)) (at 40 42) (named_type (named (ident 43 (codes "INTEGER")))));
              semicolon = (at 50 51);
            }) ∷ []);
          }));
        });
        procedures = ((record {
          procedure = (record {
            word = (at 52 61);
            name = (own (ident 62 (codes "S")));
            formals = (Some (record {
              opening = (at 63 64);
              sections = (Some
                  (record {
                    first = (record {
                      by_var = None;
                      names = (record { first = (ident 64 (codes "a")); rest = [] });
                      colon = (at 65 66);
                      of_type = (record {
                        opens = ((record { word = (at 67 72); of = (at 73 75) }) ∷ (record { word = (at 76 81); of = (at 82 84) }) ∷ []);
                        name = (named (ident 85
                            (codes "INTEGER")));
                      });
                    });
                    rest = [];
                  }));
              closing = (at 92 93);
              result_type = (Some (record {
                colon = (at 93 94);
                name = (named (ident 95 (codes
                    "INTEGER")));
              }));
            }));
            semicolon = (at 102 103);
            locals = (record { constants = None; variables = None });
            body = None;
            returns = (Some (record {
              word = (at 104 110);
              value = (expr_of (simple_of None (term_of (designator_factor (designator_of (ident 111 (codes "LEN")) (more_selectors
                  (call_selector (at 114 115) (some_arguments (exprs_of (alone (name 115 (codes "a"))) no_more_exprs)) (at 116 117)) no_selectors)))
                  (more_multipliers muls.Multiply (at 118 119) (number 120 122 (pos 10)) no_multipliers)) (more_addends adds.Add (at 123 124) (just
                  (designator_factor (designator_of (ident 125 (codes "LEN")) (more_selectors (call_selector (at 128 129) (some_arguments (exprs_of (alone
                  (designator_factor (designator_of (ident 129 (codes "a")) (more_selectors (index_selector (at 130 131) (exprs_of (alone (number 131 132 (pos 0)))
                  no_more_exprs) (at 132 133)) no_selectors)))) no_more_exprs)) (at 133 134)) no_selectors)))) no_addends)) no_relation);
            }));
            end = (at 135 138);
            end_name = (ident 139 (codes "S"));
          });
          semicolon = (at 140 141);
        }) ∷ []);
        body = (Some (record {
          word = (at 142 147);
          statements = (statements_of
              (call_statement (designator_of (ident 148 (codes "Out")) (more_selectors (field_selector (record {
                period = (at 151 152);
                name = (ident 152
                    (codes "Int"));
              })) (more_selectors (call_selector (at 155 156) (some_arguments (exprs_of (alone (designator_factor (designator_of (ident 156
              (codes "S")) (more_selectors (call_selector (at 157 158) (some_arguments (exprs_of (alone (name 158 (codes "d"))) no_more_exprs)) (at 159 160))
              no_selectors)))) (more_exprs (at 160 161) (alone (number 162 163 (pos 0))) no_more_exprs))) (at 163 164)) no_selectors)))) no_more_statements);
        }));
        end = (at 165 168);
        end_name = (ident 169 (codes "A"));
        period = (at 170 171);
      };
}

abbrev pub structures_assigned : Source
structures_assigned = record {
  stem = codes "A";
  text = codes "MODULE A; IMPORT Out; TYPE T = RECORD x: INTEGER; a: ARRAY 2 OF INTEGER END; VAR v, w: ARRAY 2 OF T; r, s: T; PROCEDURE P(VAR x, y: INTEGER); BEGIN v := w; r := s; x := x + 1; y := y + 2 END P; BEGIN w[1].x := 5; s.a[1] := 7; P(v[1].x, r.a[1]); Out.Int(v[1].x, 0); Out.Int(r.a[1], 2); Out.String(\"\") END A.";
  tree =
      record {
        word = (at 0 6);
        name = (ident 7 (codes "A"));
        semicolon = (at 8 9);
        imports = (Some (record {
          word = (at 10 16);
          first = (record {
            name
                = (ident 17 (codes "Out"));
            alias = None;
          });
          rest = [];
          semicolon = (at 20 21);
        }));
        declarations = (record {
          constants = None;
          types = (Some
              (record {
                word = (at 22 26);
                items = ((record {
                  name = (own (ident 27 (codes "T")));
                  equal = (at 29 30);
                  of_type = (record_type (record_of (at 31
                      37) None (some_fields (fields_of (record { first = (own (ident 38 (codes "x"))); rest = [] }) (at 39 40) (named_type (named (ident 41 (codes
                      "INTEGER"))))) (more_fields (at 48 49) (fields_of (record { first = (own (ident 50 (codes "a"))); rest = [] }) (at 51 52) (array_type (at 53 58)
                      (exprs_of (alone (number 59 60 (pos 2))) no_more_exprs) (at 61 63) (named_type (named (ident 64 (codes "INTEGER")))))) no_more_fields)) (at 72
                      75)));
                  semicolon = (at 75 76);
                }) ∷ []);
              }));
          variables = (Some (record {
            word = (at 77 80);
            items = ((record {
              names = (record {
                first = (own
                    (ident 81 (codes "v")));
                rest = ((record { comma = (at 82 83); ident = (own (ident 84 (codes "w"))) }) ∷ []);
              });
              colon = (at 85 86);
              of_type =
                  (array_type (at 87 92) (exprs_of (alone (number 93 94 (pos 2))) no_more_exprs) (at 95 97) (named_type (named (ident 98 (codes "T")))));
              semicolon
                  = (at 99 100);
            }) ∷ (record {
              names = (record {
                first = (own (ident 101 (codes "r")));
                rest = ((record {
                  comma = (at 102 103);
                  ident = (own (ident
                      104 (codes "s")));
                }) ∷ []);
              });
              colon = (at 105 106);
              of_type = (named_type (named (ident 107 (codes "T"))));
              semicolon = (at 108 109);
            }) ∷ []);
          }));
        });
        procedures = ((record {
          procedure = (record {
            word = (at 110 119);
            name = (own (ident 120 (codes "P")));
            formals = (Some (record {
              opening = (at 121 122);
              sections = (Some (record {
                first = (record {
                  by_var = (Some (at 122 125));
                  names = (record {
                    first = (ident 126 (codes
                        "x"));
                    rest = ((record { comma = (at 127 128); ident = (ident 129 (codes "y")) }) ∷ []);
                  });
                  colon = (at 130 131);
                  of_type = (record {
                    opens = [];
                    name = (named (ident 132 (codes "INTEGER")));
                  });
                });
                rest = [];
              }));
              closing = (at 139 140);
              result_type = None;
            }));
            semicolon = (at 140 141);
            locals = (record { constants = None; variables = None });
            body = (Some (record {
              word = (at 142 147);
              statements = (statements_of
                  (assign_statement (designator_of (ident 148 (codes "v")) no_selectors) (at 150 152) (alone (name 153 (codes "w")))) (more_statements (at 154 155)
                  (assign_statement (designator_of (ident 156 (codes "r")) no_selectors) (at 158 160) (alone (name 161 (codes "s")))) (more_statements (at 162 163)
                  (assign_statement (designator_of (ident 164 (codes "x")) no_selectors) (at 166 168) (expr_of (simple_of None (just (name 169 (codes "x")))
                  (more_addends adds.Add (at 171 172) (just (number 173 174 (pos 1))) no_addends)) no_relation)) (more_statements (at 174 175) (assign_statement
                  (designator_of (ident 176 (codes "y")) no_selectors) (at 178 180) (expr_of (simple_of None (just (name 181 (codes "y"))) (more_addends adds.Add
                  (at 183 184) (just (number 185 186 (pos 2))) no_addends)) no_relation)) no_more_statements))));
            }));
            returns = None;
            end = (at 187 190);
            end_name
                = (ident 191 (codes "P"));
          });
          semicolon = (at 192 193);
        }) ∷ []);
        body = (Some (record {
          word = (at 194 199);
          statements = (statements_of
              (assign_statement (designator_of (ident 200 (codes "w")) (more_selectors (index_selector (at 201 202) (exprs_of (alone (number 202 203 (pos 1)))
              no_more_exprs) (at 203 204)) (more_selectors (field_selector (record { period = (at 204 205); name = (ident 205 (codes "x")) })) no_selectors)))
              (at 207 209) (alone (number 210 211 (pos 5)))) (more_statements (at 211 212) (assign_statement (designator_of (ident 213 (codes "s"))
              (more_selectors (field_selector (record { period = (at 214 215); name = (ident 215 (codes "a")) })) (more_selectors (index_selector (at 216 217)
              (exprs_of (alone (number 217 218 (pos 1))) no_more_exprs) (at 218 219)) no_selectors))) (at 220 222) (alone (number 223 224 (pos 7))))
              (more_statements (at 224 225) (call_statement (designator_of (ident 226 (codes "P")) (more_selectors (call_selector (at 227 228) (some_arguments
              (exprs_of (alone (designator_factor (designator_of (ident 228 (codes "v")) (more_selectors (index_selector (at 229 230) (exprs_of (alone (number
              230 231 (pos 1))) no_more_exprs) (at 231 232)) (more_selectors (field_selector (record {
                period = (at 232 233);
                name = (ident 233 (codes "x"));
              })) no_selectors))))) (more_exprs (at 234 235) (alone (designator_factor (designator_of (ident 236 (codes "r")) (more_selectors (field_selector
              (record { period = (at 237 238); name = (ident 238 (codes "a")) })) (more_selectors (index_selector (at 239 240) (exprs_of (alone (number 240 241
              (pos 1))) no_more_exprs) (at 241 242)) no_selectors))))) no_more_exprs))) (at 242 243)) no_selectors))) (more_statements (at 243 244)
              (call_statement (designator_of (ident 245 (codes "Out")) (more_selectors (field_selector (record {
                period = (at 248 249);
                name = (ident 249
                    (codes "Int"));
              })) (more_selectors (call_selector (at 252 253) (some_arguments (exprs_of (alone (designator_factor (designator_of (ident 253
              (codes "v")) (more_selectors (index_selector (at 254 255) (exprs_of (alone (number 255 256 (pos 1))) no_more_exprs) (at 256 257)) (more_selectors
              (field_selector (record { period = (at 257 258); name = (ident 258 (codes "x")) })) no_selectors))))) (more_exprs (at 259 260) (alone (number 261
              262 (pos 0))) no_more_exprs))) (at 262 263)) no_selectors)))) (more_statements (at 263 264) (call_statement (designator_of (ident 265 (codes
              "Out")) (more_selectors (field_selector (record { period = (at 268 269); name = (ident 269 (codes "Int")) })) (more_selectors (call_selector (at
              272 273) (some_arguments (exprs_of (alone (designator_factor (designator_of (ident 273 (codes "r")) (more_selectors (field_selector (record {
                period = (at 274 275);
                name = (ident 275 (codes "a"));
              })) (more_selectors (index_selector (at 276 277) (exprs_of (alone (number 277 278 (pos 1)))
              no_more_exprs) (at 278 279)) no_selectors))))) (more_exprs (at 279 280) (alone (number 281 282 (pos 2))) no_more_exprs))) (at 282 283))
              no_selectors)))) (more_statements (at 283 284) (call_statement (designator_of (ident 285 (codes "Out")) (more_selectors (field_selector (record {
                period = (at 288 289);
                name = (ident 289 (codes "String"));
              })) (more_selectors (call_selector (at 295 296) (some_arguments (exprs_of (alone
              (string 296 298 [])) no_more_exprs)) (at 298 299)) no_selectors)))) no_more_statements))))));
        }));
        end = (at 300 303);
        end_name = (ident 304
            (codes "A"));
        period = (at 305 306);
      };
}

abbrev pub index_at_length : Source
index_at_length = record {
  stem = codes "A";
  text = codes "MODULE A; IMPORT Out; VAR a: ARRAY 3 OF CHAR; i: INTEGER; BEGIN i := 1; a[i + 2] := \"x\"; Out.String(\"\") END A.";
  tree =
      record {
        word = (at 0 6);
        name = (ident 7 (codes "A"));
        semicolon = (at 8 9);
        imports = (Some (record {
          word = (at 10 16);
          first = (record {
            name
                = (ident 17 (codes "Out"));
            alias = None;
          });
          rest = [];
          semicolon = (at 20 21);
        }));
        declarations = (record {
          constants = None;
          types = None;
          variables = (Some (record {
            word = (at 22 25);
            items = ((record {
              names = (record { first = (own (ident 26 (codes "a"))); rest = [] });
              colon =
                  (at 27 28);
              of_type = (array_type (at 29 34) (exprs_of (alone (number 35 36 (pos 3))) no_more_exprs) (at 37 39) (named_type (named (ident 40
                  (codes "CHAR")))));
              semicolon = (at 44 45);
            }) ∷ (record {
              names = (record { first = (own (ident 46 (codes "i"))); rest = [] });
              colon = (at 47
                  48);
              of_type = (named_type (named (ident 49 (codes "INTEGER"))));
              semicolon = (at 56 57);
            }) ∷ []);
          }));
        });
        procedures = [];
        body = (Some (record {
          word = (at 58 63);
          statements = (statements_of (assign_statement (designator_of (ident 64 (codes "i")) no_selectors) (at 66 68) (alone (number 69
              70 (pos 1)))) (more_statements (at 70 71) (assign_statement (designator_of (ident 72 (codes "a")) (more_selectors (index_selector (at 73 74)
              (exprs_of (expr_of (simple_of None (just (name 74 (codes "i"))) (more_addends adds.Add (at 76 77) (just (number 78 79 (pos 2))) no_addends))
              no_relation) no_more_exprs) (at 79 80)) no_selectors)) (at 81 83) (alone (string 84 87 (codes "x")))) (more_statements (at 87 88) (call_statement
              (designator_of (ident 89 (codes "Out")) (more_selectors (field_selector (record { period = (at 92 93); name = (ident 93 (codes "String")) }))
              (more_selectors (call_selector (at 99 100) (some_arguments (exprs_of (alone (string 100 102 [])) no_more_exprs)) (at 102 103)) no_selectors))))
              no_more_statements)));
        }));
        end = (at 104 107);
        end_name = (ident 108 (codes "A"));
        period = (at 109 110);
      };
}

abbrev pub index_below_zero : Source
index_below_zero = record {
  stem = codes "A";
  text = codes "MODULE A; IMPORT Out; VAR a: ARRAY 3, 4 OF CHAR; i: INTEGER; BEGIN a[1, -1] := \"x\"; Out.String(\"\") END A.";
  tree =
      record {
        word = (at 0 6);
        name = (ident 7 (codes "A"));
        semicolon = (at 8 9);
        imports = (Some (record {
          word = (at 10 16);
          first = (record {
            name
                = (ident 17 (codes "Out"));
            alias = None;
          });
          rest = [];
          semicolon = (at 20 21);
        }));
        declarations = (record {
          constants = None;
          types = None;
          variables = (Some (record {
            word = (at 22 25);
            items = ((record {
              names = (record { first = (own (ident 26 (codes "a"))); rest = [] });
              colon =
                  (at 27 28);
              of_type = (array_type (at 29 34) (exprs_of (alone (number 35 36 (pos 3))) (more_exprs (at 36 37) (alone (number 38 39 (pos 4)))
                  no_more_exprs)) (at 40 42) (named_type (named (ident 43 (codes "CHAR")))));
              semicolon = (at 47 48);
            }) ∷ (record {
              names = (record {
                first = (own
                    (ident 49 (codes "i")));
                rest = [];
              });
              colon = (at 50 51);
              of_type = (named_type (named (ident 52 (codes "INTEGER"))));
              semicolon = (at 59 60);
            })
                ∷ []);
          }));
        });
        procedures = [];
        body = (Some (record {
          word = (at 61 66);
          statements = (statements_of (assign_statement (designator_of (ident 67
              (codes "a")) (more_selectors (index_selector (at 68 69) (exprs_of (alone (number 69 70 (pos 1))) (more_exprs (at 70 71) (expr_of (simple_of (Some
              (record { sign = signs.Minus; span = (at 72 73) })) (just (number 73 74 (pos 1))) no_addends) no_relation) no_more_exprs)) (at 74 75))
              no_selectors)) (at 76 78) (alone (string 79 82 (codes "x")))) (more_statements (at 82 83) (call_statement (designator_of (ident 84 (codes "Out"))
              (more_selectors (field_selector (record { period = (at 87 88); name = (ident 88 (codes "String")) })) (more_selectors (call_selector (at 94 95)
              (some_arguments (exprs_of (alone (string 95 97 [])) no_more_exprs)) (at 97 98)) no_selectors)))) no_more_statements));
        }));
        end = (at 99 102);
        end_name = (ident 103 (codes "A"));
        period = (at 104 105);
      };
}
