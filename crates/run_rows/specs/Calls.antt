-- Small modules, with their texts and their trees, that show what calls do, and the trap of depth.
use Rattle.std.specs.Prelude.{codes, [], ◌∷◌, None, Some, pos}
use Rattle.oberon_tree.specs.declared.expression.Relator.TheVariants as relators
use Rattle.oberon_tree.specs.declared.expression.AddOperator.TheVariants as adds
use Rattle.oberon_tree.specs.declared.expression.MulOperator.TheVariants as muls
use Rattle.oberon_tree.specs.Trees.{no_relation, relation_of, expr_of, simple_of, no_addends, more_addends, term_of, no_multipliers, more_multipliers, designator_factor, designator_of, no_selectors, more_selectors, field_selector, index_selector, call_selector, some_arguments, exprs_of, no_more_exprs, more_exprs, named_type, array_type, record_type, record_of, some_fields, no_more_fields, more_fields, fields_of, statements_of, no_more_statements, more_statements, assign_statement, call_statement, if_statement, if_of, guarded_of, no_elsifs, no_else, else_of}
use Rattle.run_rules.specs.Linked.{Source}
use Rattle.run_rows.specs.Parts.{at, ident, own, named, just, plain, alone, number, string, name}

abbrev pub swapped_by_var_parameters : Source
swapped_by_var_parameters = record {
  stem = codes "A";
  text = codes "MODULE A; IMPORT Out; VAR a: ARRAY 3 OF INTEGER; PROCEDURE Swap(VAR x, y: INTEGER); VAR t: INTEGER; BEGIN t := x; x := y; y := t END Swap; PROCEDURE Fact(n: INTEGER): INTEGER; VAR r: INTEGER; BEGIN IF n < 2 THEN r := 1 ELSE r := n * Fact(n - 1) END RETURN r END Fact; BEGIN a[0] := 5; a[2] := Fact(4); Swap(a[0], a[2]); Out.Int(a[0], 3); Out.Int(a[2], 3); a[Fact(3)] := 1 END A.";
  tree =
      record {
        word = (at 0 6);
        name = (ident 7 (codes "A"));
        semicolon = (at 8 9);
        imports = (Some (record {
          word = (at 10 16);
          first = (record {
            name
                = (ident 17 (codes "Out"));
            alias = None;
          });
          rest = [];
          semicolon = (at 20 21);
        }));
        declarations = (record {
          constants = None;
          types = None;
          variables = (Some (record {
            word = (at 22 25);
            items = ((record {
              names = (record { first = (own (ident 26 (codes "a"))); rest = [] });
              colon =
                  (at 27 28);
              of_type = (array_type (at 29 34) (exprs_of (alone (number 35 36 (pos 3))) no_more_exprs) (at 37 39) (named_type (named (ident 40
                  (codes "INTEGER")))));
              semicolon = (at 47 48);
            }) ∷ []);
          }));
        });
        procedures = ((record {
          procedure = (record {
            word = (at 49 58);
            name = (own
                (ident 59 (codes "Swap")));
            formals = (Some (record {
              opening = (at 63 64);
              sections = (Some (record {
                first = (record {
                  by_var = (Some (at 64
                      67));
                  names = (record { first = (ident 68 (codes "x")); rest = ((record { comma = (at 69 70); ident = (ident 71 (codes "y")) }) ∷ []) });
                  colon =
                      (at 72 73);
                  of_type = (record { opens = []; name = (named (ident 74 (codes "INTEGER"))) });
                });
                rest = [];
              }));
              closing = (at 81 82);
              result_type =
                  None;
            }));
            semicolon = (at 82 83);
            locals = (record {
              constants = None;
              variables = (Some (record {
                word = (at 84 87);
                items = ((record {
                  names =
                      (record { first = (ident 88 (codes "t")); rest = [] });
                  colon = (at 89 90);
                  of_type = (named_type (named (ident 91 (codes "INTEGER"))));
                  semicolon = (at 98 99);
                }) ∷ []);
              }));
            });
            body = (Some (record {
              word = (at 100 105);
              statements = (statements_of (assign_statement (designator_of
                  (ident 106 (codes "t")) no_selectors) (at 108 110) (alone (name 111 (codes "x")))) (more_statements (at 112 113) (assign_statement (designator_of
                  (ident 114 (codes "x")) no_selectors) (at 116 118) (alone (name 119 (codes "y")))) (more_statements (at 120 121) (assign_statement (designator_of
                  (ident 122 (codes "y")) no_selectors) (at 124 126) (alone (name 127 (codes "t")))) no_more_statements)));
            }));
            returns = None;
            end = (at 129 132);
            end_name = (ident 133 (codes "Swap"));
          });
          semicolon = (at 137 138);
        }) ∷ (record {
          procedure = (record {
            word = (at 139 148);
            name = (own (ident
                149 (codes "Fact")));
            formals = (Some (record {
              opening = (at 153 154);
              sections = (Some (record {
                first = (record {
                  by_var = None;
                  names =
                      (record { first = (ident 154 (codes "n")); rest = [] });
                  colon = (at 155 156);
                  of_type = (record {
                    opens = [];
                    name = (named (ident 157 (codes
                        "INTEGER")));
                  });
                });
                rest = [];
              }));
              closing = (at 164 165);
              result_type = (Some (record {
                colon = (at 165 166);
                name = (named (ident 167 (codes
                    "INTEGER")));
              }));
            }));
            semicolon = (at 174 175);
            locals = (record {
              constants = None;
              variables = (Some (record {
                word = (at 176 179);
                items =
                    ((record {
                      names = (record { first = (ident 180 (codes "r")); rest = [] });
                      colon = (at 181 182);
                      of_type = (named_type (named (ident 183 (codes
                          "INTEGER"))));
                      semicolon = (at 190 191);
                    }) ∷ []);
              }));
            });
            body = (Some (record {
              word = (at 192 197);
              statements = (statements_of (if_statement
                  (if_of (guarded_of (at 198 200) (expr_of (plain (name 201 (codes "n"))) (relation_of relators.Less (at 203 204) (plain (number 205 206 (pos
                  2))))) (at 207 211) (statements_of (assign_statement (designator_of (ident 212 (codes "r")) no_selectors) (at 214 216) (alone (number 217 218
                  (pos 1)))) no_more_statements)) no_elsifs (else_of (at 219 223) (statements_of (assign_statement (designator_of (ident 224 (codes "r"))
                  no_selectors) (at 226 228) (expr_of (simple_of None (term_of (name 229 (codes "n")) (more_multipliers muls.Multiply (at 231 232)
                  (designator_factor (designator_of (ident 233 (codes "Fact")) (more_selectors (call_selector (at 237 238) (some_arguments (exprs_of (expr_of
                  (simple_of None (just (name 238 (codes "n"))) (more_addends adds.Subtract (at 240 241) (just (number 242 243 (pos 1))) no_addends)) no_relation)
                  no_more_exprs)) (at 243 244)) no_selectors))) no_multipliers)) no_addends) no_relation)) no_more_statements)) (at 245 248))) no_more_statements);
            }));
            returns = (Some (record { word = (at 249 255); value = (alone (name 256 (codes "r"))) }));
            end = (at 258 261);
            end_name = (ident 262 (codes
                "Fact"));
          });
          semicolon = (at 266 267);
        }) ∷ []);
        body = (Some (record {
          word = (at 268 273);
          statements = (statements_of (assign_statement
              (designator_of (ident 274 (codes "a")) (more_selectors (index_selector (at 275 276) (exprs_of (alone (number 276 277 (pos 0))) no_more_exprs) (at
              277 278)) no_selectors)) (at 279 281) (alone (number 282 283 (pos 5)))) (more_statements (at 283 284) (assign_statement (designator_of (ident 285
              (codes "a")) (more_selectors (index_selector (at 286 287) (exprs_of (alone (number 287 288 (pos 2))) no_more_exprs) (at 288 289)) no_selectors))
              (at 290 292) (alone (designator_factor (designator_of (ident 293 (codes "Fact")) (more_selectors (call_selector (at 297 298) (some_arguments
              (exprs_of (alone (number 298 299 (pos 4))) no_more_exprs)) (at 299 300)) no_selectors))))) (more_statements (at 300 301) (call_statement
              (designator_of (ident 302 (codes "Swap")) (more_selectors (call_selector (at 306 307) (some_arguments (exprs_of (alone (designator_factor
              (designator_of (ident 307 (codes "a")) (more_selectors (index_selector (at 308 309) (exprs_of (alone (number 309 310 (pos 0))) no_more_exprs) (at
              310 311)) no_selectors)))) (more_exprs (at 311 312) (alone (designator_factor (designator_of (ident 313 (codes "a")) (more_selectors
              (index_selector (at 314 315) (exprs_of (alone (number 315 316 (pos 2))) no_more_exprs) (at 316 317)) no_selectors)))) no_more_exprs))) (at 317
              318)) no_selectors))) (more_statements (at 318 319) (call_statement (designator_of (ident 320 (codes "Out")) (more_selectors (field_selector
              (record { period = (at 323 324); name = (ident 324 (codes "Int")) })) (more_selectors (call_selector (at 327 328) (some_arguments (exprs_of
              (alone (designator_factor (designator_of (ident 328 (codes "a")) (more_selectors (index_selector (at 329 330) (exprs_of (alone (number 330 331
              (pos 0))) no_more_exprs) (at 331 332)) no_selectors)))) (more_exprs (at 332 333) (alone (number 334 335 (pos 3))) no_more_exprs))) (at 335 336))
              no_selectors)))) (more_statements (at 336 337) (call_statement (designator_of (ident 338 (codes "Out")) (more_selectors (field_selector (record {
                period = (at 341 342);
                name = (ident 342 (codes "Int"));
              })) (more_selectors (call_selector (at 345 346) (some_arguments (exprs_of (alone
              (designator_factor (designator_of (ident 346 (codes "a")) (more_selectors (index_selector (at 347 348) (exprs_of (alone (number 348 349 (pos 2)))
              no_more_exprs) (at 349 350)) no_selectors)))) (more_exprs (at 350 351) (alone (number 352 353 (pos 3))) no_more_exprs))) (at 353 354))
              no_selectors)))) (more_statements (at 354 355) (assign_statement (designator_of (ident 356 (codes "a")) (more_selectors (index_selector (at 357
              358) (exprs_of (alone (designator_factor (designator_of (ident 358 (codes "Fact")) (more_selectors (call_selector (at 362 363) (some_arguments
              (exprs_of (alone (number 363 364 (pos 3))) no_more_exprs)) (at 364 365)) no_selectors)))) no_more_exprs) (at 365 366)) no_selectors)) (at 367
              369) (alone (number 370 371 (pos 1)))) no_more_statements))))));
        }));
        end = (at 372 375);
        end_name = (ident 376 (codes "A"));
        period = (at 377
            378);
      };
}

abbrev pub var_parameter_and_value : Source
var_parameter_and_value = record {
  stem = codes "A";
  text = codes "MODULE A; IMPORT Out; VAR i: INTEGER; PROCEDURE P(VAR x: INTEGER; y: INTEGER); BEGIN x := x + y; x := x + y END P; BEGIN i := 1; P(i, i); Out.Int(i, 0); Out.String(\"\") END A.";
  tree =
      record {
        word = (at 0 6);
        name = (ident 7 (codes "A"));
        semicolon = (at 8 9);
        imports = (Some (record {
          word = (at 10 16);
          first = (record {
            name
                = (ident 17 (codes "Out"));
            alias = None;
          });
          rest = [];
          semicolon = (at 20 21);
        }));
        declarations = (record {
          constants = None;
          types = None;
          variables = (Some (record {
            word = (at 22 25);
            items = ((record {
              names = (record { first = (own (ident 26 (codes "i"))); rest = [] });
              colon =
                  (at 27 28);
              of_type = (named_type (named (ident 29 (codes "INTEGER"))));
              semicolon = (at 36 37);
            }) ∷ []);
          }));
        });
        procedures = ((record {
          procedure = (record {
            word = (at 38 47);
            name = (own (ident 48 (codes "P")));
            formals = (Some (record {
              opening = (at 49 50);
              sections = (Some
                  (record {
                    first = (record {
                      by_var = (Some (at 50 53));
                      names = (record { first = (ident 54 (codes "x")); rest = [] });
                      colon = (at 55 56);
                      of_type = (record { opens = []; name = (named (ident 57 (codes "INTEGER"))) });
                    });
                    rest = ((record {
                      semicolon = (at 64 65);
                      section = (record {
                        by_var = None;
                        names = (record { first = (ident 66 (codes "y")); rest = [] });
                        colon = (at 67 68);
                        of_type = (record {
                          opens = [];
                          name = (named
                              (ident 69 (codes "INTEGER")));
                        });
                      });
                    }) ∷ []);
                  }));
              closing = (at 76 77);
              result_type = None;
            }));
            semicolon = (at 77 78);
            locals = (record {
              constants = None;
              variables = None;
            });
            body = (Some (record {
              word = (at 79 84);
              statements = (statements_of (assign_statement (designator_of
                  (ident 85 (codes "x")) no_selectors) (at 87 89) (expr_of (simple_of None (just (name 90 (codes "x"))) (more_addends adds.Add (at 92 93) (just
                  (name 94 (codes "y"))) no_addends)) no_relation)) (more_statements (at 95 96) (assign_statement (designator_of (ident 97 (codes "x"))
                  no_selectors) (at 99 101) (expr_of (simple_of None (just (name 102 (codes "x"))) (more_addends adds.Add (at 104 105) (just (name 106 (codes
                  "y"))) no_addends)) no_relation)) no_more_statements));
            }));
            returns = None;
            end = (at 108 111);
            end_name = (ident 112 (codes "P"));
          });
          semicolon
              = (at 113 114);
        }) ∷ []);
        body = (Some (record {
          word = (at 115 120);
          statements = (statements_of (assign_statement (designator_of (ident 121
              (codes "i")) no_selectors) (at 123 125) (alone (number 126 127 (pos 1)))) (more_statements (at 127 128) (call_statement (designator_of (ident 129
              (codes "P")) (more_selectors (call_selector (at 130 131) (some_arguments (exprs_of (alone (name 131 (codes "i"))) (more_exprs (at 132 133) (alone
              (name 134 (codes "i"))) no_more_exprs))) (at 135 136)) no_selectors))) (more_statements (at 136 137) (call_statement (designator_of (ident 138
              (codes "Out")) (more_selectors (field_selector (record { period = (at 141 142); name = (ident 142 (codes "Int")) })) (more_selectors
              (call_selector (at 145 146) (some_arguments (exprs_of (alone (name 146 (codes "i"))) (more_exprs (at 147 148) (alone (number 149 150 (pos 0)))
              no_more_exprs))) (at 150 151)) no_selectors)))) (more_statements (at 151 152) (call_statement (designator_of (ident 153 (codes "Out"))
              (more_selectors (field_selector (record { period = (at 156 157); name = (ident 157 (codes "String")) })) (more_selectors (call_selector (at 163
              164) (some_arguments (exprs_of (alone (string 164 166 [])) no_more_exprs)) (at 166 167)) no_selectors)))) no_more_statements))));
        }));
        end = (at
            168 171);
        end_name = (ident 172 (codes "A"));
        period = (at 173 174);
      };
}

abbrev pub value_parameters_are_copies : Source
value_parameters_are_copies = record {
  stem = codes "A";
  text = codes "MODULE A; IMPORT Out; TYPE S = ARRAY 4 OF CHAR; T = RECORD s: S; x: INTEGER END; D = ARRAY 2, 2 OF INTEGER; VAR s: S; t: T; d: D; PROCEDURE P(a: S; b: T; c: D; e: ARRAY OF CHAR; f: ARRAY OF INTEGER); BEGIN s := \"new\"; t.s := s; t.x := 9; d[1, 1] := 9; Out.String(a); Out.String(b.s); Out.Int(b.x, 0); Out.Int(c[1, 1], 0); Out.String(e); Out.Int(f[1], 0); Out.Int(LEN(f), 0) END P; BEGIN s := \"old\"; t.s := s; t.x := 1; d[1, 1] := 2; P(s, t, d, s, d[1]); P(\"lit\", t, d, \"str\", d[0]); Out.String(\"\") END A.";
  tree =
      record {
        word = (at 0 6);
        name = (ident 7 (codes "A"));
        semicolon = (at 8 9);
        imports = (Some (record {
          word = (at 10 16);
          first = (record {
            name
                = (ident 17 (codes "Out"));
            alias = None;
          });
          rest = [];
          semicolon = (at 20 21);
        }));
        declarations = (record {
          constants = None;
          types = (Some
              (record {
                word = (at 22 26);
                items = ((record {
                  name = (own (ident 27 (codes "S")));
                  equal = (at 29 30);
                  of_type = (array_type (at 31 36)
                      (exprs_of (alone (number 37 38 (pos 4))) no_more_exprs) (at 39 41) (named_type (named (ident 42 (codes "CHAR")))));
                  semicolon = (at 46 47);
                }) ∷
                    (record {
                      name = (own (ident 48 (codes "T")));
                      equal = (at 50 51);
                      of_type = (record_type (record_of (at 52 58) None (some_fields (fields_of
                          (record { first = (own (ident 59 (codes "s"))); rest = [] }) (at 60 61) (named_type (named (ident 62 (codes "S"))))) (more_fields (at 63 64)
                          (fields_of (record { first = (own (ident 65 (codes "x"))); rest = [] }) (at 66 67) (named_type (named (ident 68 (codes "INTEGER")))))
                          no_more_fields)) (at 76 79)));
                      semicolon = (at 79 80);
                    }) ∷ (record {
                      name = (own (ident 81 (codes "D")));
                      equal = (at 83 84);
                      of_type =
                          (array_type (at 85 90) (exprs_of (alone (number 91 92 (pos 2))) (more_exprs (at 92 93) (alone (number 94 95 (pos 2))) no_more_exprs)) (at 96 98)
                          (named_type (named (ident 99 (codes "INTEGER")))));
                      semicolon = (at 106 107);
                    }) ∷ []);
              }));
          variables = (Some (record {
            word = (at 108 111);
            items
                = ((record {
                  names = (record { first = (own (ident 112 (codes "s"))); rest = [] });
                  colon = (at 113 114);
                  of_type = (named_type (named (ident 115
                      (codes "S"))));
                  semicolon = (at 116 117);
                }) ∷ (record {
                  names = (record { first = (own (ident 118 (codes "t"))); rest = [] });
                  colon = (at 119
                      120);
                  of_type = (named_type (named (ident 121 (codes "T"))));
                  semicolon = (at 122 123);
                }) ∷ (record {
                  names = (record {
                    first = (own (ident 124
                        (codes "d")));
                    rest = [];
                  });
                  colon = (at 125 126);
                  of_type = (named_type (named (ident 127 (codes "D"))));
                  semicolon = (at 128 129);
                }) ∷ []);
          }));
        });
        procedures = ((record {
          procedure = (record {
            word = (at 130 139);
            name = (own (ident 140 (codes "P")));
            formals = (Some (record {
              opening =
                  (at 141 142);
              sections = (Some (record {
                first = (record {
                  by_var = None;
                  names = (record { first = (ident 142 (codes "a")); rest = [] });
                  colon
                      = (at 143 144);
                  of_type = (record { opens = []; name = (named (ident 145 (codes "S"))) });
                });
                rest = ((record {
                  semicolon = (at 146 147);
                  section
                      = (record {
                        by_var = None;
                        names = (record { first = (ident 148 (codes "b")); rest = [] });
                        colon = (at 149 150);
                        of_type = (record {
                          opens = [];
                          name = (named (ident 151 (codes "T")));
                        });
                      });
                }) ∷ (record {
                  semicolon = (at 152 153);
                  section = (record {
                    by_var = None;
                    names = (record {
                      first
                          = (ident 154 (codes "c"));
                      rest = [];
                    });
                    colon = (at 155 156);
                    of_type = (record { opens = []; name = (named (ident 157 (codes "D"))) });
                  });
                }) ∷
                    (record {
                      semicolon = (at 158 159);
                      section = (record {
                        by_var = None;
                        names = (record { first = (ident 160 (codes "e")); rest = [] });
                        colon =
                            (at 161 162);
                        of_type = (record {
                          opens = ((record { word = (at 163 168); of = (at 169 171) }) ∷ []);
                          name = (named (ident 172 (codes "CHAR")));
                        });
                      });
                    }) ∷ (record {
                      semicolon = (at 176 177);
                      section = (record {
                        by_var = None;
                        names = (record {
                          first = (ident 178 (codes "f"));
                          rest = [];
                        });
                        colon = (at 179 180);
                        of_type = (record {
                          opens = ((record { word = (at 181 186); of = (at 187 189) }) ∷ []);
                          name = (named (ident 190 (codes
                              "INTEGER")));
                        });
                      });
                    }) ∷ []);
              }));
              closing = (at 197 198);
              result_type = None;
            }));
            semicolon = (at 198 199);
            locals = (record {
              constants = None;
              variables = None;
            });
            body = (Some (record {
              word = (at 200 205);
              statements = (statements_of (assign_statement (designator_of (ident 206 (codes
                  "s")) no_selectors) (at 208 210) (alone (string 211 216 (codes "new")))) (more_statements (at 216 217) (assign_statement (designator_of (ident
                  218 (codes "t")) (more_selectors (field_selector (record { period = (at 219 220); name = (ident 220 (codes "s")) })) no_selectors)) (at 222 224)
                  (alone (name 225 (codes "s")))) (more_statements (at 226 227) (assign_statement (designator_of (ident 228 (codes "t")) (more_selectors
                  (field_selector (record { period = (at 229 230); name = (ident 230 (codes "x")) })) no_selectors)) (at 232 234) (alone (number 235 236 (pos 9))))
                  (more_statements (at 236 237) (assign_statement (designator_of (ident 238 (codes "d")) (more_selectors (index_selector (at 239 240) (exprs_of
                  (alone (number 240 241 (pos 1))) (more_exprs (at 241 242) (alone (number 243 244 (pos 1))) no_more_exprs)) (at 244 245)) no_selectors)) (at 246
                  248) (alone (number 249 250 (pos 9)))) (more_statements (at 250 251) (call_statement (designator_of (ident 252 (codes "Out")) (more_selectors
                  (field_selector (record { period = (at 255 256); name = (ident 256 (codes "String")) })) (more_selectors (call_selector (at 262 263)
                  (some_arguments (exprs_of (alone (name 263 (codes "a"))) no_more_exprs)) (at 264 265)) no_selectors)))) (more_statements (at 265 266)
                  (call_statement (designator_of (ident 267 (codes "Out")) (more_selectors (field_selector (record {
                    period = (at 270 271);
                    name = (ident 271
                        (codes "String"));
                  })) (more_selectors (call_selector (at 277 278) (some_arguments (exprs_of (alone (designator_factor (designator_of (ident 278
                  (codes "b")) (more_selectors (field_selector (record { period = (at 279 280); name = (ident 280 (codes "s")) })) no_selectors)))) no_more_exprs))
                  (at 281 282)) no_selectors)))) (more_statements (at 282 283) (call_statement (designator_of (ident 284 (codes "Out")) (more_selectors
                  (field_selector (record { period = (at 287 288); name = (ident 288 (codes "Int")) })) (more_selectors (call_selector (at 291 292) (some_arguments
                  (exprs_of (alone (designator_factor (designator_of (ident 292 (codes "b")) (more_selectors (field_selector (record {
                    period = (at 293 294);
                    name
                        = (ident 294 (codes "x"));
                  })) no_selectors)))) (more_exprs (at 295 296) (alone (number 297 298 (pos 0))) no_more_exprs))) (at 298 299))
                  no_selectors)))) (more_statements (at 299 300) (call_statement (designator_of (ident 301 (codes "Out")) (more_selectors (field_selector (record {
                    period = (at 304 305);
                    name = (ident 305 (codes "Int"));
                  })) (more_selectors (call_selector (at 308 309) (some_arguments (exprs_of (alone
                  (designator_factor (designator_of (ident 309 (codes "c")) (more_selectors (index_selector (at 310 311) (exprs_of (alone (number 311 312 (pos 1)))
                  (more_exprs (at 312 313) (alone (number 314 315 (pos 1))) no_more_exprs)) (at 315 316)) no_selectors)))) (more_exprs (at 316 317) (alone (number
                  318 319 (pos 0))) no_more_exprs))) (at 319 320)) no_selectors)))) (more_statements (at 320 321) (call_statement (designator_of (ident 322 (codes
                  "Out")) (more_selectors (field_selector (record { period = (at 325 326); name = (ident 326 (codes "String")) })) (more_selectors (call_selector
                  (at 332 333) (some_arguments (exprs_of (alone (name 333 (codes "e"))) no_more_exprs)) (at 334 335)) no_selectors)))) (more_statements (at 335
                  336) (call_statement (designator_of (ident 337 (codes "Out")) (more_selectors (field_selector (record {
                    period = (at 340 341);
                    name = (ident 341
                        (codes "Int"));
                  })) (more_selectors (call_selector (at 344 345) (some_arguments (exprs_of (alone (designator_factor (designator_of (ident 345
                  (codes "f")) (more_selectors (index_selector (at 346 347) (exprs_of (alone (number 347 348 (pos 1))) no_more_exprs) (at 348 349))
                  no_selectors)))) (more_exprs (at 349 350) (alone (number 351 352 (pos 0))) no_more_exprs))) (at 352 353)) no_selectors)))) (more_statements (at
                  353 354) (call_statement (designator_of (ident 355 (codes "Out")) (more_selectors (field_selector (record {
                    period = (at 358 359);
                    name = (ident
                        359 (codes "Int"));
                  })) (more_selectors (call_selector (at 362 363) (some_arguments (exprs_of (alone (designator_factor (designator_of (ident 363
                  (codes "LEN")) (more_selectors (call_selector (at 366 367) (some_arguments (exprs_of (alone (name 367 (codes "f"))) no_more_exprs)) (at 368 369))
                  no_selectors)))) (more_exprs (at 369 370) (alone (number 371 372 (pos 0))) no_more_exprs))) (at 372 373)) no_selectors))))
                  no_more_statements)))))))))));
            }));
            returns = None;
            end = (at 374 377);
            end_name = (ident 378 (codes "P"));
          });
          semicolon = (at 379 380);
        }) ∷ []);
        body = (Some (record {
          word = (at 381 386);
          statements = (statements_of (assign_statement (designator_of (ident 387 (codes "s")) no_selectors)
              (at 389 391) (alone (string 392 397 (codes "old")))) (more_statements (at 397 398) (assign_statement (designator_of (ident 399 (codes "t"))
              (more_selectors (field_selector (record { period = (at 400 401); name = (ident 401 (codes "s")) })) no_selectors)) (at 403 405) (alone (name 406
              (codes "s")))) (more_statements (at 407 408) (assign_statement (designator_of (ident 409 (codes "t")) (more_selectors (field_selector (record {
                period = (at 410 411);
                name = (ident 411 (codes "x"));
              })) no_selectors)) (at 413 415) (alone (number 416 417 (pos 1)))) (more_statements (at 417
              418) (assign_statement (designator_of (ident 419 (codes "d")) (more_selectors (index_selector (at 420 421) (exprs_of (alone (number 421 422 (pos
              1))) (more_exprs (at 422 423) (alone (number 424 425 (pos 1))) no_more_exprs)) (at 425 426)) no_selectors)) (at 427 429) (alone (number 430 431
              (pos 2)))) (more_statements (at 431 432) (call_statement (designator_of (ident 433 (codes "P")) (more_selectors (call_selector (at 434 435)
              (some_arguments (exprs_of (alone (name 435 (codes "s"))) (more_exprs (at 436 437) (alone (name 438 (codes "t"))) (more_exprs (at 439 440) (alone
              (name 441 (codes "d"))) (more_exprs (at 442 443) (alone (name 444 (codes "s"))) (more_exprs (at 445 446) (alone (designator_factor (designator_of
              (ident 447 (codes "d")) (more_selectors (index_selector (at 448 449) (exprs_of (alone (number 449 450 (pos 1))) no_more_exprs) (at 450 451))
              no_selectors)))) no_more_exprs)))))) (at 451 452)) no_selectors))) (more_statements (at 452 453) (call_statement (designator_of (ident 454 (codes
              "P")) (more_selectors (call_selector (at 455 456) (some_arguments (exprs_of (alone (string 456 461 (codes "lit"))) (more_exprs (at 461 462)
              (alone (name 463 (codes "t"))) (more_exprs (at 464 465) (alone (name 466 (codes "d"))) (more_exprs (at 467 468) (alone (string 469 474 (codes
              "str"))) (more_exprs (at 474 475) (alone (designator_factor (designator_of (ident 476 (codes "d")) (more_selectors (index_selector (at 477 478)
              (exprs_of (alone (number 478 479 (pos 0))) no_more_exprs) (at 479 480)) no_selectors)))) no_more_exprs)))))) (at 480 481)) no_selectors)))
              (more_statements (at 481 482) (call_statement (designator_of (ident 483 (codes "Out")) (more_selectors (field_selector (record {
                period = (at 486
                    487);
                name = (ident 487 (codes "String"));
              })) (more_selectors (call_selector (at 493 494) (some_arguments (exprs_of (alone (string 494 496 []))
              no_more_exprs)) (at 496 497)) no_selectors)))) no_more_statements)))))));
        }));
        end = (at 498 501);
        end_name = (ident 502 (codes "A"));
        period =
            (at 503 504);
      };
}

abbrev pub names_of_a_procedure_come_first : Source
names_of_a_procedure_come_first = record {
  stem = codes "A";
  text = codes "MODULE A; IMPORT Out; CONST n = 1; VAR m: INTEGER; PROCEDURE P; CONST n = 2; VAR m: INTEGER; BEGIN m := n; Out.Int(m, 0) END P; BEGIN P; Out.Int(m + n, 2) END A.";
  tree =
      record {
        word = (at 0 6);
        name = (ident 7 (codes "A"));
        semicolon = (at 8 9);
        imports = (Some (record {
          word = (at 10 16);
          first = (record {
            name
                = (ident 17 (codes "Out"));
            alias = None;
          });
          rest = [];
          semicolon = (at 20 21);
        }));
        declarations = (record {
          constants = (Some (record {
            word =
                (at 22 27);
            items = ((record {
              name = (own (ident 28 (codes "n")));
              equal = (at 30 31);
              value = (alone (number 32 33 (pos 1)));
              semicolon = (at
                  33 34);
            }) ∷ []);
          }));
          types = None;
          variables = (Some (record {
            word = (at 35 38);
            items = ((record {
              names = (record {
                first = (own (ident 39
                    (codes "m")));
                rest = [];
              });
              colon = (at 40 41);
              of_type = (named_type (named (ident 42 (codes "INTEGER"))));
              semicolon = (at 49 50);
            }) ∷ []);
          }));
        });
        procedures = ((record {
          procedure = (record {
            word = (at 51 60);
            name = (own (ident 61 (codes "P")));
            formals = None;
            semicolon = (at 62 63);
            locals = (record {
              constants = (Some (record {
                word = (at 64 69);
                items = ((record {
                  name = (ident 70 (codes "n"));
                  equal = (at 72 73);
                  value =
                      (alone (number 74 75 (pos 2)));
                  semicolon = (at 75 76);
                }) ∷ []);
              }));
              variables = (Some (record {
                word = (at 77 80);
                items = ((record {
                  names =
                      (record { first = (ident 81 (codes "m")); rest = [] });
                  colon = (at 82 83);
                  of_type = (named_type (named (ident 84 (codes "INTEGER"))));
                  semicolon = (at 91 92);
                }) ∷ []);
              }));
            });
            body = (Some (record {
              word = (at 93 98);
              statements = (statements_of (assign_statement (designator_of
                  (ident 99 (codes "m")) no_selectors) (at 101 103) (alone (name 104 (codes "n")))) (more_statements (at 105 106) (call_statement (designator_of
                  (ident 107 (codes "Out")) (more_selectors (field_selector (record { period = (at 110 111); name = (ident 111 (codes "Int")) })) (more_selectors
                  (call_selector (at 114 115) (some_arguments (exprs_of (alone (name 115 (codes "m"))) (more_exprs (at 116 117) (alone (number 118 119 (pos 0)))
                  no_more_exprs))) (at 119 120)) no_selectors)))) no_more_statements));
            }));
            returns = None;
            end = (at 121 124);
            end_name = (ident 125 (codes "P"));
          });
          semicolon = (at 126 127);
        }) ∷ []);
        body = (Some (record {
          word = (at 128 133);
          statements = (statements_of (call_statement (designator_of
              (ident 134 (codes "P")) no_selectors)) (more_statements (at 135 136) (call_statement (designator_of (ident 137 (codes "Out")) (more_selectors
              (field_selector (record { period = (at 140 141); name = (ident 141 (codes "Int")) })) (more_selectors (call_selector (at 144 145) (some_arguments
              (exprs_of (expr_of (simple_of None (just (name 145 (codes "m"))) (more_addends adds.Add (at 147 148) (just (name 149 (codes "n"))) no_addends))
              no_relation) (more_exprs (at 150 151) (alone (number 152 153 (pos 2))) no_more_exprs))) (at 153 154)) no_selectors)))) no_more_statements));
        }));
        end = (at 155 158);
        end_name = (ident 159 (codes "A"));
        period = (at 160 161);
      };
}

abbrev pub calls_256_deep : Source
calls_256_deep = record {
  stem = codes "A";
  text = codes "MODULE A; PROCEDURE P(n: INTEGER); BEGIN IF n > 1 THEN P(n - 1) END END P; BEGIN P(256) END A.";
  tree =
      record {
        word = (at 0 6);
        name = (ident 7 (codes "A"));
        semicolon = (at 8 9);
        imports = None;
        declarations = (record {
          constants = None;
          types =
              None;
          variables = None;
        });
        procedures = ((record {
          procedure = (record {
            word = (at 10 19);
            name = (own (ident 20 (codes "P")));
            formals = (Some
                (record {
                  opening = (at 21 22);
                  sections = (Some (record {
                    first = (record {
                      by_var = None;
                      names = (record {
                        first = (ident 22 (codes "n"));
                        rest = [];
                      });
                      colon = (at 23 24);
                      of_type = (record { opens = []; name = (named (ident 25 (codes "INTEGER"))) });
                    });
                    rest = [];
                  }));
                  closing = (at
                      32 33);
                  result_type = None;
                }));
            semicolon = (at 33 34);
            locals = (record { constants = None; variables = None });
            body = (Some (record {
              word =
                  (at 35 40);
              statements = (statements_of (if_statement (if_of (guarded_of (at 41 43) (expr_of (plain (name 44 (codes "n"))) (relation_of
                  relators.Greater (at 46 47) (plain (number 48 49 (pos 1))))) (at 50 54) (statements_of (call_statement (designator_of (ident 55 (codes "P"))
                  (more_selectors (call_selector (at 56 57) (some_arguments (exprs_of (expr_of (simple_of None (just (name 57 (codes "n"))) (more_addends
                  adds.Subtract (at 59 60) (just (number 61 62 (pos 1))) no_addends)) no_relation) no_more_exprs)) (at 62 63)) no_selectors))) no_more_statements))
                  no_elsifs no_else (at 64 67))) no_more_statements);
            }));
            returns = None;
            end = (at 68 71);
            end_name = (ident 72 (codes "P"));
          });
          semicolon = (at
              73 74);
        }) ∷ []);
        body = (Some (record {
          word = (at 75 80);
          statements = (statements_of (call_statement (designator_of (ident 81 (codes "P"))
              (more_selectors (call_selector (at 82 83) (some_arguments (exprs_of (alone (number 83 86 (pos 256))) no_more_exprs)) (at 86 87)) no_selectors)))
              no_more_statements);
        }));
        end = (at 88 91);
        end_name = (ident 92 (codes "A"));
        period = (at 93 94);
      };
}

abbrev pub calls_257_deep : Source
calls_257_deep = record {
  stem = codes "A";
  text = codes "MODULE A; PROCEDURE P(n: INTEGER); BEGIN IF n > 1 THEN P(n - 1) END END P; BEGIN P(257) END A.";
  tree =
      record {
        word = (at 0 6);
        name = (ident 7 (codes "A"));
        semicolon = (at 8 9);
        imports = None;
        declarations = (record {
          constants = None;
          types =
              None;
          variables = None;
        });
        procedures = ((record {
          procedure = (record {
            word = (at 10 19);
            name = (own (ident 20 (codes "P")));
            formals = (Some
                (record {
                  opening = (at 21 22);
                  sections = (Some (record {
                    first = (record {
                      by_var = None;
                      names = (record {
                        first = (ident 22 (codes "n"));
                        rest = [];
                      });
                      colon = (at 23 24);
                      of_type = (record { opens = []; name = (named (ident 25 (codes "INTEGER"))) });
                    });
                    rest = [];
                  }));
                  closing = (at
                      32 33);
                  result_type = None;
                }));
            semicolon = (at 33 34);
            locals = (record { constants = None; variables = None });
            body = (Some (record {
              word =
                  (at 35 40);
              statements = (statements_of (if_statement (if_of (guarded_of (at 41 43) (expr_of (plain (name 44 (codes "n"))) (relation_of
                  relators.Greater (at 46 47) (plain (number 48 49 (pos 1))))) (at 50 54) (statements_of (call_statement (designator_of (ident 55 (codes "P"))
                  (more_selectors (call_selector (at 56 57) (some_arguments (exprs_of (expr_of (simple_of None (just (name 57 (codes "n"))) (more_addends
                  adds.Subtract (at 59 60) (just (number 61 62 (pos 1))) no_addends)) no_relation) no_more_exprs)) (at 62 63)) no_selectors))) no_more_statements))
                  no_elsifs no_else (at 64 67))) no_more_statements);
            }));
            returns = None;
            end = (at 68 71);
            end_name = (ident 72 (codes "P"));
          });
          semicolon = (at
              73 74);
        }) ∷ []);
        body = (Some (record {
          word = (at 75 80);
          statements = (statements_of (call_statement (designator_of (ident 81 (codes "P"))
              (more_selectors (call_selector (at 82 83) (some_arguments (exprs_of (alone (number 83 86 (pos 257))) no_more_exprs)) (at 86 87)) no_selectors)))
              no_more_statements);
        }));
        end = (at 88 91);
        end_name = (ident 92 (codes "A"));
        period = (at 93 94);
      };
}
