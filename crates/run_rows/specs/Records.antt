-- Small modules, with their texts and their trees, that show what records come to, and the trap of guards.
use Rattle.std.specs.Prelude.{codes, [], ◌∷◌, None, Some, pos}
use Rattle.oberon_tree.specs.declared.expression.Relator.TheVariants as relators
use Rattle.oberon_tree.specs.declared.expression.AddOperator.TheVariants as adds
use Rattle.oberon_tree.specs.declared.expression.MulOperator.TheVariants as muls
use Rattle.oberon_tree.specs.Trees.{no_relation, relation_of, expr_of, simple_of, no_addends, more_addends, term_of, no_multipliers, more_multipliers, designator_factor, designator_of, no_selectors, more_selectors, field_selector, index_selector, call_selector, some_arguments, exprs_of, no_more_exprs, more_exprs, named_type, array_type, record_type, record_of, no_fields, some_fields, no_more_fields, more_fields, fields_of, statements_of, no_more_statements, more_statements, assign_statement, call_statement, if_statement, if_of, guarded_of, no_elsifs, no_else}
use Rattle.run_rules.specs.Linked.{Source}
use Rattle.run_rows.specs.Parts.{at, ident, own, shown, named, just, plain, alone, number, string, name}

abbrev pub records_of_two_modules_b : Source
records_of_two_modules_b = record {
  stem = codes "B";
  text = codes "MODULE B; TYPE R* = RECORD a*: INTEGER; h: CHAR END; S* = RECORD (R) b*: BYTE END; VAR g*: S; PROCEDURE Set*(VAR r: R; n: INTEGER); BEGIN r.a := n; r.h := \"q\"; IF r IS S THEN r(S).b := n MOD 256 END END Set; BEGIN g.b := 7 END B.";
  tree =
      record {
        word = (at 0 6);
        name = (ident 7 (codes "B"));
        semicolon = (at 8 9);
        imports = None;
        declarations = (record {
          constants = None;
          types =
              (Some (record {
                word = (at 10 14);
                items = ((record {
                  name = (shown (ident 15 (codes "R")) (at 16 17));
                  equal = (at 18 19);
                  of_type =
                      (record_type (record_of (at 20 26) None (some_fields (fields_of (record { first = (shown (ident 27 (codes "a")) (at 28 29)); rest = [] }) (at 29
                      30) (named_type (named (ident 31 (codes "INTEGER"))))) (more_fields (at 38 39) (fields_of (record {
                        first = (own (ident 40 (codes "h")));
                        rest =
                            [];
                      }) (at 41 42) (named_type (named (ident 43 (codes "CHAR"))))) no_more_fields)) (at 48 51)));
                  semicolon = (at 51 52);
                }) ∷ (record {
                  name =
                      (shown (ident 53 (codes "S")) (at 54 55));
                  equal = (at 56 57);
                  of_type = (record_type (record_of (at 58 64) (Some (record {
                    opening = (at 65 66);
                    name = (named (ident 66 (codes "R")));
                    closing = (at 67 68);
                  })) (some_fields (fields_of (record {
                    first = (shown (ident 69 (codes "b")) (at 70
                        71));
                    rest = [];
                  }) (at 71 72) (named_type (named (ident 73 (codes "BYTE"))))) no_more_fields) (at 78 81)));
                  semicolon = (at 81 82);
                }) ∷ []);
              }));
          variables = (Some (record {
            word = (at 83 86);
            items = ((record {
              names = (record {
                first = (shown (ident 87 (codes "g")) (at 88 89));
                rest = [];
              });
              colon = (at 89 90);
              of_type = (named_type (named (ident 91 (codes "S"))));
              semicolon = (at 92 93);
            }) ∷ []);
          }));
        });
        procedures = ((record {
          procedure = (record {
            word = (at 94 103);
            name = (shown (ident 104 (codes "Set")) (at 107 108));
            formals = (Some (record {
              opening = (at 108
                  109);
              sections = (Some (record {
                first = (record {
                  by_var = (Some (at 109 112));
                  names = (record { first = (ident 113 (codes "r")); rest = [] });
                  colon = (at 114 115);
                  of_type = (record { opens = []; name = (named (ident 116 (codes "R"))) });
                });
                rest = ((record {
                  semicolon = (at 117 118);
                  section = (record {
                    by_var = None;
                    names = (record { first = (ident 119 (codes "n")); rest = [] });
                    colon = (at 120 121);
                    of_type = (record {
                      opens = [];
                      name = (named (ident 122 (codes "INTEGER")));
                    });
                  });
                }) ∷ []);
              }));
              closing = (at 129 130);
              result_type = None;
            }));
            semicolon = (at 130
                131);
            locals = (record { constants = None; variables = None });
            body = (Some (record {
              word = (at 132 137);
              statements = (statements_of
                  (assign_statement (designator_of (ident 138 (codes "r")) (more_selectors (field_selector (record {
                    period = (at 139 140);
                    name = (ident 140
                        (codes "a"));
                  })) no_selectors)) (at 142 144) (alone (name 145 (codes "n")))) (more_statements (at 146 147) (assign_statement (designator_of
                  (ident 148 (codes "r")) (more_selectors (field_selector (record { period = (at 149 150); name = (ident 150 (codes "h")) })) no_selectors)) (at
                  152 154) (alone (string 155 158 (codes "q")))) (more_statements (at 158 159) (if_statement (if_of (guarded_of (at 160 162) (expr_of (plain (name
                  163 (codes "r"))) (relation_of relators.Is (at 165 167) (plain (name 168 (codes "S"))))) (at 170 174) (statements_of (assign_statement
                  (designator_of (ident 175 (codes "r")) (more_selectors (call_selector (at 176 177) (some_arguments (exprs_of (alone (name 177 (codes "S")))
                  no_more_exprs)) (at 178 179)) (more_selectors (field_selector (record { period = (at 179 180); name = (ident 180 (codes "b")) })) no_selectors)))
                  (at 182 184) (expr_of (simple_of None (term_of (name 185 (codes "n")) (more_multipliers muls.Mod (at 187 190) (number 191 194 (pos 256))
                  no_multipliers)) no_addends) no_relation)) no_more_statements)) no_elsifs no_else (at 195 198))) no_more_statements)));
            }));
            returns = None;
            end =
                (at 199 202);
            end_name = (ident 203 (codes "Set"));
          });
          semicolon = (at 206 207);
        }) ∷ []);
        body = (Some (record {
          word = (at 208 213);
          statements
              = (statements_of (assign_statement (designator_of (ident 214 (codes "g")) (more_selectors (field_selector (record {
                period = (at 215 216);
                name =
                    (ident 216 (codes "b"));
              })) no_selectors)) (at 218 220) (alone (number 221 222 (pos 7)))) no_more_statements);
        }));
        end = (at 223 226);
        end_name =
            (ident 227 (codes "B"));
        period = (at 228 229);
      };
}

abbrev pub records_of_two_modules_a : Source
records_of_two_modules_a = record {
  stem = codes "A";
  text = codes "MODULE A; IMPORT Out, X := B; VAR s: X.S; r: ARRAY 2 OF X.R; BEGIN X.Set(s, 300); X.Set(r[1], 1); r[0] := s; Out.Int(r[0].a, 0); Out.Int(s.b, 4); Out.Int(X.g.b, 4); Out.Int(r[1].a, 4); s.b := r[0].a END A.";
  tree =
      record {
        word = (at 0 6);
        name = (ident 7 (codes "A"));
        semicolon = (at 8 9);
        imports = (Some (record {
          word = (at 10 16);
          first = (record {
            name
                = (ident 17 (codes "Out"));
            alias = None;
          });
          rest = ((record {
            comma = (at 20 21);
            import = (record {
              name = (ident 22 (codes "X"));
              alias =
                  (Some (record { becomes = (at 24 26); imported = (ident 27 (codes "B")) }));
            });
          }) ∷ []);
          semicolon = (at 28 29);
        }));
        declarations = (record {
          constants = None;
          types = None;
          variables = (Some (record {
            word = (at 30 33);
            items = ((record {
              names = (record {
                first = (own (ident 34 (codes
                    "s")));
                rest = [];
              });
              colon = (at 35 36);
              of_type = (named_type (record {
                first = (ident 37 (codes "X"));
                member = (Some (record {
                  period = (at
                      38 39);
                  name = (ident 39 (codes "S"));
                }));
              }));
              semicolon = (at 40 41);
            }) ∷ (record {
              names = (record {
                first = (own (ident 42 (codes "r")));
                rest
                    = [];
              });
              colon = (at 43 44);
              of_type = (array_type (at 45 50) (exprs_of (alone (number 51 52 (pos 2))) no_more_exprs) (at 53 55) (named_type
                  (record { first = (ident 56 (codes "X")); member = (Some (record { period = (at 57 58); name = (ident 58 (codes "R")) })) })));
              semicolon = (at
                  59 60);
            }) ∷ []);
          }));
        });
        procedures = [];
        body = (Some (record {
          word = (at 61 66);
          statements = (statements_of (call_statement (designator_of
              (ident 67 (codes "X")) (more_selectors (field_selector (record { period = (at 68 69); name = (ident 69 (codes "Set")) })) (more_selectors
              (call_selector (at 72 73) (some_arguments (exprs_of (alone (name 73 (codes "s"))) (more_exprs (at 74 75) (alone (number 76 79 (pos 300)))
              no_more_exprs))) (at 79 80)) no_selectors)))) (more_statements (at 80 81) (call_statement (designator_of (ident 82 (codes "X")) (more_selectors
              (field_selector (record { period = (at 83 84); name = (ident 84 (codes "Set")) })) (more_selectors (call_selector (at 87 88) (some_arguments
              (exprs_of (alone (designator_factor (designator_of (ident 88 (codes "r")) (more_selectors (index_selector (at 89 90) (exprs_of (alone (number 90
              91 (pos 1))) no_more_exprs) (at 91 92)) no_selectors)))) (more_exprs (at 92 93) (alone (number 94 95 (pos 1))) no_more_exprs))) (at 95 96))
              no_selectors)))) (more_statements (at 96 97) (assign_statement (designator_of (ident 98 (codes "r")) (more_selectors (index_selector (at 99 100)
              (exprs_of (alone (number 100 101 (pos 0))) no_more_exprs) (at 101 102)) no_selectors)) (at 103 105) (alone (name 106 (codes "s"))))
              (more_statements (at 107 108) (call_statement (designator_of (ident 109 (codes "Out")) (more_selectors (field_selector (record {
                period = (at 112
                    113);
                name = (ident 113 (codes "Int"));
              })) (more_selectors (call_selector (at 116 117) (some_arguments (exprs_of (alone (designator_factor
              (designator_of (ident 117 (codes "r")) (more_selectors (index_selector (at 118 119) (exprs_of (alone (number 119 120 (pos 0))) no_more_exprs) (at
              120 121)) (more_selectors (field_selector (record { period = (at 121 122); name = (ident 122 (codes "a")) })) no_selectors))))) (more_exprs (at
              123 124) (alone (number 125 126 (pos 0))) no_more_exprs))) (at 126 127)) no_selectors)))) (more_statements (at 127 128) (call_statement
              (designator_of (ident 129 (codes "Out")) (more_selectors (field_selector (record { period = (at 132 133); name = (ident 133 (codes "Int")) }))
              (more_selectors (call_selector (at 136 137) (some_arguments (exprs_of (alone (designator_factor (designator_of (ident 137 (codes "s"))
              (more_selectors (field_selector (record { period = (at 138 139); name = (ident 139 (codes "b")) })) no_selectors)))) (more_exprs (at 140 141)
              (alone (number 142 143 (pos 4))) no_more_exprs))) (at 143 144)) no_selectors)))) (more_statements (at 144 145) (call_statement (designator_of
              (ident 146 (codes "Out")) (more_selectors (field_selector (record { period = (at 149 150); name = (ident 150 (codes "Int")) })) (more_selectors
              (call_selector (at 153 154) (some_arguments (exprs_of (alone (designator_factor (designator_of (ident 154 (codes "X")) (more_selectors
              (field_selector (record { period = (at 155 156); name = (ident 156 (codes "g")) })) (more_selectors (field_selector (record {
                period = (at 157
                    158);
                name = (ident 158 (codes "b"));
              })) no_selectors))))) (more_exprs (at 159 160) (alone (number 161 162 (pos 4))) no_more_exprs))) (at 162
              163)) no_selectors)))) (more_statements (at 163 164) (call_statement (designator_of (ident 165 (codes "Out")) (more_selectors (field_selector
              (record { period = (at 168 169); name = (ident 169 (codes "Int")) })) (more_selectors (call_selector (at 172 173) (some_arguments (exprs_of
              (alone (designator_factor (designator_of (ident 173 (codes "r")) (more_selectors (index_selector (at 174 175) (exprs_of (alone (number 175 176
              (pos 1))) no_more_exprs) (at 176 177)) (more_selectors (field_selector (record { period = (at 177 178); name = (ident 178 (codes "a")) }))
              no_selectors))))) (more_exprs (at 179 180) (alone (number 181 182 (pos 4))) no_more_exprs))) (at 182 183)) no_selectors)))) (more_statements (at
              183 184) (assign_statement (designator_of (ident 185 (codes "s")) (more_selectors (field_selector (record {
                period = (at 186 187);
                name = (ident
                    187 (codes "b"));
              })) no_selectors)) (at 189 191) (alone (designator_factor (designator_of (ident 192 (codes "r")) (more_selectors (index_selector
              (at 193 194) (exprs_of (alone (number 194 195 (pos 0))) no_more_exprs) (at 195 196)) (more_selectors (field_selector (record {
                period = (at 196
                    197);
                name = (ident 197 (codes "a"));
              })) no_selectors)))))) no_more_statements))))))));
        }));
        end = (at 199 202);
        end_name = (ident 203 (codes
            "A"));
        period = (at 204 205);
      };
}

abbrev pub records_by_their_types : Source
records_by_their_types = record {
  stem = codes "A";
  text = codes "MODULE A; IMPORT Out; TYPE T = RECORD x: INTEGER END; E = RECORD (T) y: INTEGER END; VAR t: T; e, f: E; PROCEDURE P(VAR r: T; q: T); VAR s: T; BEGIN s := r; Out.Int(ORD(r IS E), 0); r := s; IF r IS E THEN r(E).y := r(E).y + 1 END END P; BEGIN P(t, t); P(e, t); P(e, e); f.x := 7; t := f; e.y := 5; e := f; Out.Int(e.y, 0); Out.Int(t.x, 0); Out.String(\"\") END A.";
  tree =
      record {
        word = (at 0 6);
        name = (ident 7 (codes "A"));
        semicolon = (at 8 9);
        imports = (Some (record {
          word = (at 10 16);
          first = (record {
            name
                = (ident 17 (codes "Out"));
            alias = None;
          });
          rest = [];
          semicolon = (at 20 21);
        }));
        declarations = (record {
          constants = None;
          types = (Some
              (record {
                word = (at 22 26);
                items = ((record {
                  name = (own (ident 27 (codes "T")));
                  equal = (at 29 30);
                  of_type = (record_type (record_of (at 31
                      37) None (some_fields (fields_of (record { first = (own (ident 38 (codes "x"))); rest = [] }) (at 39 40) (named_type (named (ident 41 (codes
                      "INTEGER"))))) no_more_fields) (at 49 52)));
                  semicolon = (at 52 53);
                }) ∷ (record {
                  name = (own (ident 54 (codes "E")));
                  equal = (at 56 57);
                  of_type = (record_type (record_of (at 58 64) (Some (record {
                    opening = (at 65 66);
                    name = (named (ident 66 (codes "T")));
                    closing = (at 67 68);
                  })) (some_fields (fields_of (record { first = (own (ident 69 (codes "y"))); rest = [] }) (at 70 71) (named_type (named (ident 72 (codes
                      "INTEGER"))))) no_more_fields) (at 80 83)));
                  semicolon = (at 83 84);
                }) ∷ []);
              }));
          variables = (Some (record {
            word = (at 85 88);
            items = ((record {
              names = (record { first = (own (ident 89 (codes "t"))); rest = [] });
              colon = (at 90 91);
              of_type = (named_type (named (ident 92 (codes
                  "T"))));
              semicolon = (at 93 94);
            }) ∷ (record {
              names = (record {
                first = (own (ident 95 (codes "e")));
                rest = ((record {
                  comma = (at 96 97);
                  ident = (own (ident 98 (codes "f")));
                }) ∷ []);
              });
              colon = (at 99 100);
              of_type = (named_type (named (ident 101 (codes "E"))));
              semicolon = (at
                  102 103);
            }) ∷ []);
          }));
        });
        procedures = ((record {
          procedure = (record {
            word = (at 104 113);
            name = (own (ident 114 (codes "P")));
            formals =
                (Some (record {
                  opening = (at 115 116);
                  sections = (Some (record {
                    first = (record {
                      by_var = (Some (at 116 119));
                      names = (record {
                        first =
                            (ident 120 (codes "r"));
                        rest = [];
                      });
                      colon = (at 121 122);
                      of_type = (record { opens = []; name = (named (ident 123 (codes "T"))) });
                    });
                    rest =
                        ((record {
                          semicolon = (at 124 125);
                          section = (record {
                            by_var = None;
                            names = (record { first = (ident 126 (codes "q")); rest = [] });
                            colon =
                                (at 127 128);
                            of_type = (record { opens = []; name = (named (ident 129 (codes "T"))) });
                          });
                        }) ∷ []);
                  }));
                  closing = (at 130 131);
                  result_type =
                      None;
                }));
            semicolon = (at 131 132);
            locals = (record {
              constants = None;
              variables = (Some (record {
                word = (at 133 136);
                items = ((record {
                  names = (record { first = (ident 137 (codes "s")); rest = [] });
                  colon = (at 138 139);
                  of_type = (named_type (named (ident 140 (codes "T"))));
                  semicolon = (at 141 142);
                }) ∷ []);
              }));
            });
            body = (Some (record {
              word = (at 143 148);
              statements = (statements_of (assign_statement
                  (designator_of (ident 149 (codes "s")) no_selectors) (at 151 153) (alone (name 154 (codes "r")))) (more_statements (at 155 156) (call_statement
                  (designator_of (ident 157 (codes "Out")) (more_selectors (field_selector (record { period = (at 160 161); name = (ident 161 (codes "Int")) }))
                  (more_selectors (call_selector (at 164 165) (some_arguments (exprs_of (alone (designator_factor (designator_of (ident 165 (codes "ORD"))
                  (more_selectors (call_selector (at 168 169) (some_arguments (exprs_of (expr_of (plain (name 169 (codes "r"))) (relation_of relators.Is (at 171
                  173) (plain (name 174 (codes "E"))))) no_more_exprs)) (at 175 176)) no_selectors)))) (more_exprs (at 176 177) (alone (number 178 179 (pos 0)))
                  no_more_exprs))) (at 179 180)) no_selectors)))) (more_statements (at 180 181) (assign_statement (designator_of (ident 182 (codes "r"))
                  no_selectors) (at 184 186) (alone (name 187 (codes "s")))) (more_statements (at 188 189) (if_statement (if_of (guarded_of (at 190 192) (expr_of
                  (plain (name 193 (codes "r"))) (relation_of relators.Is (at 195 197) (plain (name 198 (codes "E"))))) (at 200 204) (statements_of
                  (assign_statement (designator_of (ident 205 (codes "r")) (more_selectors (call_selector (at 206 207) (some_arguments (exprs_of (alone (name 207
                  (codes "E"))) no_more_exprs)) (at 208 209)) (more_selectors (field_selector (record { period = (at 209 210); name = (ident 210 (codes "y")) }))
                  no_selectors))) (at 212 214) (expr_of (simple_of None (just (designator_factor (designator_of (ident 215 (codes "r")) (more_selectors
                  (call_selector (at 216 217) (some_arguments (exprs_of (alone (name 217 (codes "E"))) no_more_exprs)) (at 218 219)) (more_selectors
                  (field_selector (record { period = (at 219 220); name = (ident 220 (codes "y")) })) no_selectors))))) (more_addends adds.Add (at 222 223) (just
                  (number 224 225 (pos 1))) no_addends)) no_relation)) no_more_statements)) no_elsifs no_else (at 226 229))) no_more_statements))));
            }));
            returns =
                None;
            end = (at 230 233);
            end_name = (ident 234 (codes "P"));
          });
          semicolon = (at 235 236);
        }) ∷ []);
        body = (Some (record {
          word = (at 237 242);
          statements = (statements_of (call_statement (designator_of (ident 243 (codes "P")) (more_selectors (call_selector (at 244 245) (some_arguments
              (exprs_of (alone (name 245 (codes "t"))) (more_exprs (at 246 247) (alone (name 248 (codes "t"))) no_more_exprs))) (at 249 250)) no_selectors)))
              (more_statements (at 250 251) (call_statement (designator_of (ident 252 (codes "P")) (more_selectors (call_selector (at 253 254) (some_arguments
              (exprs_of (alone (name 254 (codes "e"))) (more_exprs (at 255 256) (alone (name 257 (codes "t"))) no_more_exprs))) (at 258 259)) no_selectors)))
              (more_statements (at 259 260) (call_statement (designator_of (ident 261 (codes "P")) (more_selectors (call_selector (at 262 263) (some_arguments
              (exprs_of (alone (name 263 (codes "e"))) (more_exprs (at 264 265) (alone (name 266 (codes "e"))) no_more_exprs))) (at 267 268)) no_selectors)))
              (more_statements (at 268 269) (assign_statement (designator_of (ident 270 (codes "f")) (more_selectors (field_selector (record {
                period = (at 271
                    272);
                name = (ident 272 (codes "x"));
              })) no_selectors)) (at 274 276) (alone (number 277 278 (pos 7)))) (more_statements (at 278 279)
              (assign_statement (designator_of (ident 280 (codes "t")) no_selectors) (at 282 284) (alone (name 285 (codes "f")))) (more_statements (at 286 287)
              (assign_statement (designator_of (ident 288 (codes "e")) (more_selectors (field_selector (record {
                period = (at 289 290);
                name = (ident 290
                    (codes "y"));
              })) no_selectors)) (at 292 294) (alone (number 295 296 (pos 5)))) (more_statements (at 296 297) (assign_statement (designator_of
              (ident 298 (codes "e")) no_selectors) (at 300 302) (alone (name 303 (codes "f")))) (more_statements (at 304 305) (call_statement (designator_of
              (ident 306 (codes "Out")) (more_selectors (field_selector (record { period = (at 309 310); name = (ident 310 (codes "Int")) })) (more_selectors
              (call_selector (at 313 314) (some_arguments (exprs_of (alone (designator_factor (designator_of (ident 314 (codes "e")) (more_selectors
              (field_selector (record { period = (at 315 316); name = (ident 316 (codes "y")) })) no_selectors)))) (more_exprs (at 317 318) (alone (number 319
              320 (pos 0))) no_more_exprs))) (at 320 321)) no_selectors)))) (more_statements (at 321 322) (call_statement (designator_of (ident 323 (codes
              "Out")) (more_selectors (field_selector (record { period = (at 326 327); name = (ident 327 (codes "Int")) })) (more_selectors (call_selector (at
              330 331) (some_arguments (exprs_of (alone (designator_factor (designator_of (ident 331 (codes "t")) (more_selectors (field_selector (record {
                period = (at 332 333);
                name = (ident 333 (codes "x"));
              })) no_selectors)))) (more_exprs (at 334 335) (alone (number 336 337 (pos 0)))
              no_more_exprs))) (at 337 338)) no_selectors)))) (more_statements (at 338 339) (call_statement (designator_of (ident 340 (codes "Out"))
              (more_selectors (field_selector (record { period = (at 343 344); name = (ident 344 (codes "String")) })) (more_selectors (call_selector (at 350
              351) (some_arguments (exprs_of (alone (string 351 353 [])) no_more_exprs)) (at 353 354)) no_selectors)))) no_more_statements))))))))));
        }));
        end =
            (at 355 358);
        end_name = (ident 359 (codes "A"));
        period = (at 360 361);
      };
}

abbrev pub tests_of_actual_types : Source
tests_of_actual_types = record {
  stem = codes "A";
  text = codes "MODULE A; IMPORT Out; TYPE A = RECORD END; B = RECORD (A) END; C = RECORD (B) x: INTEGER END; VAR c: C; b: B; PROCEDURE P(VAR a: A); BEGIN Out.Int(ORD(a IS A), 0); Out.Int(ORD(a IS B), 0); Out.Int(ORD(a IS C), 0) END P; BEGIN P(b); P(c); Out.String(\"\") END A.";
  tree =
      record {
        word = (at 0 6);
        name = (ident 7 (codes "A"));
        semicolon = (at 8 9);
        imports = (Some (record {
          word = (at 10 16);
          first = (record {
            name
                = (ident 17 (codes "Out"));
            alias = None;
          });
          rest = [];
          semicolon = (at 20 21);
        }));
        declarations = (record {
          constants = None;
          types = (Some
              (record {
                word = (at 22 26);
                items = ((record {
                  name = (own (ident 27 (codes "A")));
                  equal = (at 29 30);
                  of_type = (record_type (record_of (at 31
                      37) None no_fields (at 38 41)));
                  semicolon = (at 41 42);
                }) ∷ (record {
                  name = (own (ident 43 (codes "B")));
                  equal = (at 45 46);
                  of_type =
                      (record_type (record_of (at 47 53) (Some (record { opening = (at 54 55); name = (named (ident 55 (codes "A"))); closing = (at 56 57) }))
                      no_fields (at 58 61)));
                  semicolon = (at 61 62);
                }) ∷ (record {
                  name = (own (ident 63 (codes "C")));
                  equal = (at 65 66);
                  of_type = (record_type
                      (record_of (at 67 73) (Some (record { opening = (at 74 75); name = (named (ident 75 (codes "B"))); closing = (at 76 77) })) (some_fields
                      (fields_of (record { first = (own (ident 78 (codes "x"))); rest = [] }) (at 79 80) (named_type (named (ident 81 (codes "INTEGER")))))
                      no_more_fields) (at 89 92)));
                  semicolon = (at 92 93);
                }) ∷ []);
              }));
          variables = (Some (record {
            word = (at 94 97);
            items = ((record {
              names =
                  (record { first = (own (ident 98 (codes "c"))); rest = [] });
              colon = (at 99 100);
              of_type = (named_type (named (ident 101 (codes "C"))));
              semicolon = (at 102 103);
            }) ∷ (record {
              names = (record { first = (own (ident 104 (codes "b"))); rest = [] });
              colon = (at 105 106);
              of_type =
                  (named_type (named (ident 107 (codes "B"))));
              semicolon = (at 108 109);
            }) ∷ []);
          }));
        });
        procedures = ((record {
          procedure = (record {
            word = (at
                110 119);
            name = (own (ident 120 (codes "P")));
            formals = (Some (record {
              opening = (at 121 122);
              sections = (Some (record {
                first = (record {
                  by_var = (Some (at 122 125));
                  names = (record { first = (ident 126 (codes "a")); rest = [] });
                  colon = (at 127 128);
                  of_type = (record {
                    opens =
                        [];
                    name = (named (ident 129 (codes "A")));
                  });
                });
                rest = [];
              }));
              closing = (at 130 131);
              result_type = None;
            }));
            semicolon = (at 131 132);
            locals
                = (record { constants = None; variables = None });
            body = (Some (record {
              word = (at 133 138);
              statements = (statements_of (call_statement
                  (designator_of (ident 139 (codes "Out")) (more_selectors (field_selector (record { period = (at 142 143); name = (ident 143 (codes "Int")) }))
                  (more_selectors (call_selector (at 146 147) (some_arguments (exprs_of (alone (designator_factor (designator_of (ident 147 (codes "ORD"))
                  (more_selectors (call_selector (at 150 151) (some_arguments (exprs_of (expr_of (plain (name 151 (codes "a"))) (relation_of relators.Is (at 153
                  155) (plain (name 156 (codes "A"))))) no_more_exprs)) (at 157 158)) no_selectors)))) (more_exprs (at 158 159) (alone (number 160 161 (pos 0)))
                  no_more_exprs))) (at 161 162)) no_selectors)))) (more_statements (at 162 163) (call_statement (designator_of (ident 164 (codes "Out"))
                  (more_selectors (field_selector (record { period = (at 167 168); name = (ident 168 (codes "Int")) })) (more_selectors (call_selector (at 171 172)
                  (some_arguments (exprs_of (alone (designator_factor (designator_of (ident 172 (codes "ORD")) (more_selectors (call_selector (at 175 176)
                  (some_arguments (exprs_of (expr_of (plain (name 176 (codes "a"))) (relation_of relators.Is (at 178 180) (plain (name 181 (codes "B")))))
                  no_more_exprs)) (at 182 183)) no_selectors)))) (more_exprs (at 183 184) (alone (number 185 186 (pos 0))) no_more_exprs))) (at 186 187))
                  no_selectors)))) (more_statements (at 187 188) (call_statement (designator_of (ident 189 (codes "Out")) (more_selectors (field_selector (record {
                    period = (at 192 193);
                    name = (ident 193 (codes "Int"));
                  })) (more_selectors (call_selector (at 196 197) (some_arguments (exprs_of (alone
                  (designator_factor (designator_of (ident 197 (codes "ORD")) (more_selectors (call_selector (at 200 201) (some_arguments (exprs_of (expr_of (plain
                  (name 201 (codes "a"))) (relation_of relators.Is (at 203 205) (plain (name 206 (codes "C"))))) no_more_exprs)) (at 207 208)) no_selectors))))
                  (more_exprs (at 208 209) (alone (number 210 211 (pos 0))) no_more_exprs))) (at 211 212)) no_selectors)))) no_more_statements)));
            }));
            returns =
                None;
            end = (at 213 216);
            end_name = (ident 217 (codes "P"));
          });
          semicolon = (at 218 219);
        }) ∷ []);
        body = (Some (record {
          word = (at 220 225);
          statements = (statements_of (call_statement (designator_of (ident 226 (codes "P")) (more_selectors (call_selector (at 227 228) (some_arguments
              (exprs_of (alone (name 228 (codes "b"))) no_more_exprs)) (at 229 230)) no_selectors))) (more_statements (at 230 231) (call_statement
              (designator_of (ident 232 (codes "P")) (more_selectors (call_selector (at 233 234) (some_arguments (exprs_of (alone (name 234 (codes "c")))
              no_more_exprs)) (at 235 236)) no_selectors))) (more_statements (at 236 237) (call_statement (designator_of (ident 238 (codes "Out"))
              (more_selectors (field_selector (record { period = (at 241 242); name = (ident 242 (codes "String")) })) (more_selectors (call_selector (at 248
              249) (some_arguments (exprs_of (alone (string 249 251 [])) no_more_exprs)) (at 251 252)) no_selectors)))) no_more_statements)));
        }));
        end = (at
            253 256);
        end_name = (ident 257 (codes "A"));
        period = (at 258 259);
      };
}

abbrev pub guard_fails : Source
guard_fails = record {
  stem = codes "T";
  text = codes "MODULE T; TYPE A = RECORD x: INTEGER END; B = RECORD (A) y: INTEGER END; VAR a: A; PROCEDURE P(VAR r: A); BEGIN r(B).y := 1 END P; PROCEDURE TestG*; BEGIN P(a) END TestG; END T.";
  tree =
      record {
        word = (at 0 6);
        name = (ident 7 (codes "T"));
        semicolon = (at 8 9);
        imports = None;
        declarations = (record {
          constants = None;
          types =
              (Some (record {
                word = (at 10 14);
                items = ((record {
                  name = (own (ident 15 (codes "A")));
                  equal = (at 17 18);
                  of_type = (record_type (record_of
                      (at 19 25) None (some_fields (fields_of (record { first = (own (ident 26 (codes "x"))); rest = [] }) (at 27 28) (named_type (named (ident 29
                      (codes "INTEGER"))))) no_more_fields) (at 37 40)));
                  semicolon = (at 40 41);
                }) ∷ (record {
                  name = (own (ident 42 (codes "B")));
                  equal = (at 44
                      45);
                  of_type = (record_type (record_of (at 46 52) (Some (record {
                    opening = (at 53 54);
                    name = (named (ident 54 (codes "A")));
                    closing = (at 55
                        56);
                  })) (some_fields (fields_of (record { first = (own (ident 57 (codes "y"))); rest = [] }) (at 58 59) (named_type (named (ident 60 (codes
                      "INTEGER"))))) no_more_fields) (at 68 71)));
                  semicolon = (at 71 72);
                }) ∷ []);
              }));
          variables = (Some (record {
            word = (at 73 76);
            items = ((record {
              names = (record { first = (own (ident 77 (codes "a"))); rest = [] });
              colon = (at 78 79);
              of_type = (named_type (named (ident 80 (codes
                  "A"))));
              semicolon = (at 81 82);
            }) ∷ []);
          }));
        });
        procedures = ((record {
          procedure = (record {
            word = (at 83 92);
            name = (own (ident 93 (codes
                "P")));
            formals = (Some (record {
              opening = (at 94 95);
              sections = (Some (record {
                first = (record {
                  by_var = (Some (at 95 98));
                  names = (record
                      { first = (ident 99 (codes "r")); rest = [] });
                  colon = (at 100 101);
                  of_type = (record { opens = []; name = (named (ident 102 (codes "A"))) });
                });
                rest = [];
              }));
              closing = (at 103 104);
              result_type = None;
            }));
            semicolon = (at 104 105);
            locals = (record {
              constants = None;
              variables =
                  None;
            });
            body = (Some (record {
              word = (at 106 111);
              statements = (statements_of (assign_statement (designator_of (ident 112 (codes "r"))
                  (more_selectors (call_selector (at 113 114) (some_arguments (exprs_of (alone (name 114 (codes "B"))) no_more_exprs)) (at 115 116))
                  (more_selectors (field_selector (record { period = (at 116 117); name = (ident 117 (codes "y")) })) no_selectors))) (at 119 121) (alone (number
                  122 123 (pos 1)))) no_more_statements);
            }));
            returns = None;
            end = (at 124 127);
            end_name = (ident 128 (codes "P"));
          });
          semicolon = (at 129 130);
        }) ∷ (record {
          procedure = (record {
            word = (at 131 140);
            name = (shown (ident 141 (codes "TestG")) (at 146 147));
            formals = None;
            semicolon =
                (at 147 148);
            locals = (record { constants = None; variables = None });
            body = (Some (record {
              word = (at 149 154);
              statements = (statements_of
                  (call_statement (designator_of (ident 155 (codes "P")) (more_selectors (call_selector (at 156 157) (some_arguments (exprs_of (alone (name 157
                  (codes "a"))) no_more_exprs)) (at 158 159)) no_selectors))) no_more_statements);
            }));
            returns = None;
            end = (at 160 163);
            end_name = (ident 164
                (codes "TestG"));
          });
          semicolon = (at 169 170);
        }) ∷ []);
        body = None;
        end = (at 171 174);
        end_name = (ident 175 (codes "T"));
        period = (at 176
            177);
      };
}
