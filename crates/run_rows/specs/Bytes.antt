-- Small modules, with their texts and their trees, that show what bytes come to, and the trap of range.
use Rattle.std.specs.Prelude.{codes, [], ◌∷◌, None, Some, pos}
use Rattle.oberon_tree.specs.declared.expression.Sign.TheVariants as signs
use Rattle.oberon_tree.specs.declared.expression.AddOperator.TheVariants as adds
use Rattle.oberon_tree.specs.Trees.{no_relation, expr_of, simple_of, no_addends, more_addends, set_factor, designator_factor, set_of, some_elements, no_more_elements, element_of, upper_of, designator_of, no_selectors, more_selectors, field_selector, call_selector, some_arguments, exprs_of, no_more_exprs, more_exprs, named_type, statements_of, no_more_statements, more_statements, assign_statement, call_statement}
use Rattle.run_rules.specs.Linked.{Source}
use Rattle.run_rows.specs.Parts.{at, ident, own, named, just, alone, number, string, name}

abbrev pub bytes_within_range : Source
bytes_within_range = record {
  stem = codes "A";
  text = codes "MODULE A; IMPORT Out; VAR n: BYTE; i: INTEGER; c: CHAR; PROCEDURE P(x: INTEGER): BYTE; RETURN x END P; BEGIN n := 255; n := 0; i := 255; n := P(i); c := CHR(255); c := CHR(0); i := -2147483647 - 1; i := 2147483646 + 1; Out.Int(n, 0); Out.Int(ORD({0..31}), 0); INC(n, 0); DEC(n); Out.Int(n, 4); INC(n, 1); Out.Int(n, 4); i := 5; INC(i); Out.Int(i, 0); DEC(i, 3); Out.Int(i, 0); Out.String(\"\") END A.";
  tree =
      record {
        word = (at 0 6);
        name = (ident 7 (codes "A"));
        semicolon = (at 8 9);
        imports = (Some (record {
          word = (at 10 16);
          first = (record {
            name
                = (ident 17 (codes "Out"));
            alias = None;
          });
          rest = [];
          semicolon = (at 20 21);
        }));
        declarations = (record {
          constants = None;
          types = None;
          variables = (Some (record {
            word = (at 22 25);
            items = ((record {
              names = (record { first = (own (ident 26 (codes "n"))); rest = [] });
              colon =
                  (at 27 28);
              of_type = (named_type (named (ident 29 (codes "BYTE"))));
              semicolon = (at 33 34);
            }) ∷ (record {
              names = (record {
                first = (own (ident
                    35 (codes "i")));
                rest = [];
              });
              colon = (at 36 37);
              of_type = (named_type (named (ident 38 (codes "INTEGER"))));
              semicolon = (at 45 46);
            }) ∷
                (record {
                  names = (record { first = (own (ident 47 (codes "c"))); rest = [] });
                  colon = (at 48 49);
                  of_type = (named_type (named (ident 50 (codes
                      "CHAR"))));
                  semicolon = (at 54 55);
                }) ∷ []);
          }));
        });
        procedures = ((record {
          procedure = (record {
            word = (at 56 65);
            name = (own (ident 66 (codes
                "P")));
            formals = (Some (record {
              opening = (at 67 68);
              sections = (Some (record {
                first = (record {
                  by_var = None;
                  names = (record {
                    first =
                        (ident 68 (codes "x"));
                    rest = [];
                  });
                  colon = (at 69 70);
                  of_type = (record { opens = []; name = (named (ident 71 (codes "INTEGER"))) });
                });
                rest
                    = [];
              }));
              closing = (at 78 79);
              result_type = (Some (record { colon = (at 79 80); name = (named (ident 81 (codes "BYTE"))) }));
            }));
            semicolon =
                (at 85 86);
            locals = (record { constants = None; variables = None });
            body = None;
            returns = (Some (record {
              word = (at 87 93);
              value = (alone
                  (name 94 (codes "x")));
            }));
            end = (at 96 99);
            end_name = (ident 100 (codes "P"));
          });
          semicolon = (at 101 102);
        }) ∷ []);
        body = (Some (record {
          word = (at 103 108);
          statements = (statements_of (assign_statement (designator_of (ident 109 (codes "n")) no_selectors) (at 111 113) (alone
              (number 114 117 (pos 255)))) (more_statements (at 117 118) (assign_statement (designator_of (ident 119 (codes "n")) no_selectors) (at 121 123)
              (alone (number 124 125 (pos 0)))) (more_statements (at 125 126) (assign_statement (designator_of (ident 127 (codes "i")) no_selectors) (at 129
              131) (alone (number 132 135 (pos 255)))) (more_statements (at 135 136) (assign_statement (designator_of (ident 137 (codes "n")) no_selectors) (at
              139 141) (alone (designator_factor (designator_of (ident 142 (codes "P")) (more_selectors (call_selector (at 143 144) (some_arguments (exprs_of
              (alone (name 144 (codes "i"))) no_more_exprs)) (at 145 146)) no_selectors))))) (more_statements (at 146 147) (assign_statement (designator_of
              (ident 148 (codes "c")) no_selectors) (at 150 152) (alone (designator_factor (designator_of (ident 153 (codes "CHR")) (more_selectors
              (call_selector (at 156 157) (some_arguments (exprs_of (alone (number 157 160 (pos 255))) no_more_exprs)) (at 160 161)) no_selectors)))))
              (more_statements (at 161 162) (assign_statement (designator_of (ident 163 (codes "c")) no_selectors) (at 165 167) (alone (designator_factor
              (designator_of (ident 168 (codes "CHR")) (more_selectors (call_selector (at 171 172) (some_arguments (exprs_of (alone (number 172 173 (pos 0)))
              no_more_exprs)) (at 173 174)) no_selectors))))) (more_statements (at 174 175) (assign_statement (designator_of (ident 176 (codes "i"))
              no_selectors) (at 178 180) (expr_of (simple_of (Some (record { sign = signs.Minus; span = (at 181 182) })) (just (number 182 192 (pos
              2147483647))) (more_addends adds.Subtract (at 193 194) (just (number 195 196 (pos 1))) no_addends)) no_relation)) (more_statements (at 196 197)
              (assign_statement (designator_of (ident 198 (codes "i")) no_selectors) (at 200 202) (expr_of (simple_of None (just (number 203 213 (pos
              2147483646))) (more_addends adds.Add (at 214 215) (just (number 216 217 (pos 1))) no_addends)) no_relation)) (more_statements (at 217 218)
              (call_statement (designator_of (ident 219 (codes "Out")) (more_selectors (field_selector (record {
                period = (at 222 223);
                name = (ident 223
                    (codes "Int"));
              })) (more_selectors (call_selector (at 226 227) (some_arguments (exprs_of (alone (name 227 (codes "n"))) (more_exprs (at 228 229)
              (alone (number 230 231 (pos 0))) no_more_exprs))) (at 231 232)) no_selectors)))) (more_statements (at 232 233) (call_statement (designator_of
              (ident 234 (codes "Out")) (more_selectors (field_selector (record { period = (at 237 238); name = (ident 238 (codes "Int")) })) (more_selectors
              (call_selector (at 241 242) (some_arguments (exprs_of (alone (designator_factor (designator_of (ident 242 (codes "ORD")) (more_selectors
              (call_selector (at 245 246) (some_arguments (exprs_of (alone (set_factor (set_of (at 246 247) (some_elements (element_of (alone (number 247 248
              (pos 0))) (upper_of (at 248 250) (alone (number 250 252 (pos 31))))) no_more_elements) (at 252 253)))) no_more_exprs)) (at 253 254))
              no_selectors)))) (more_exprs (at 254 255) (alone (number 256 257 (pos 0))) no_more_exprs))) (at 257 258)) no_selectors)))) (more_statements (at
              258 259) (call_statement (designator_of (ident 260 (codes "INC")) (more_selectors (call_selector (at 263 264) (some_arguments (exprs_of (alone
              (name 264 (codes "n"))) (more_exprs (at 265 266) (alone (number 267 268 (pos 0))) no_more_exprs))) (at 268 269)) no_selectors))) (more_statements
              (at 269 270) (call_statement (designator_of (ident 271 (codes "DEC")) (more_selectors (call_selector (at 274 275) (some_arguments (exprs_of
              (alone (name 275 (codes "n"))) no_more_exprs)) (at 276 277)) no_selectors))) (more_statements (at 277 278) (call_statement (designator_of (ident
              279 (codes "Out")) (more_selectors (field_selector (record { period = (at 282 283); name = (ident 283 (codes "Int")) })) (more_selectors
              (call_selector (at 286 287) (some_arguments (exprs_of (alone (name 287 (codes "n"))) (more_exprs (at 288 289) (alone (number 290 291 (pos 4)))
              no_more_exprs))) (at 291 292)) no_selectors)))) (more_statements (at 292 293) (call_statement (designator_of (ident 294 (codes "INC"))
              (more_selectors (call_selector (at 297 298) (some_arguments (exprs_of (alone (name 298 (codes "n"))) (more_exprs (at 299 300) (alone (number 301
              302 (pos 1))) no_more_exprs))) (at 302 303)) no_selectors))) (more_statements (at 303 304) (call_statement (designator_of (ident 305 (codes
              "Out")) (more_selectors (field_selector (record { period = (at 308 309); name = (ident 309 (codes "Int")) })) (more_selectors (call_selector (at
              312 313) (some_arguments (exprs_of (alone (name 313 (codes "n"))) (more_exprs (at 314 315) (alone (number 316 317 (pos 4))) no_more_exprs))) (at
              317 318)) no_selectors)))) (more_statements (at 318 319) (assign_statement (designator_of (ident 320 (codes "i")) no_selectors) (at 322 324)
              (alone (number 325 326 (pos 5)))) (more_statements (at 326 327) (call_statement (designator_of (ident 328 (codes "INC")) (more_selectors
              (call_selector (at 331 332) (some_arguments (exprs_of (alone (name 332 (codes "i"))) no_more_exprs)) (at 333 334)) no_selectors)))
              (more_statements (at 334 335) (call_statement (designator_of (ident 336 (codes "Out")) (more_selectors (field_selector (record {
                period = (at 339
                    340);
                name = (ident 340 (codes "Int"));
              })) (more_selectors (call_selector (at 343 344) (some_arguments (exprs_of (alone (name 344 (codes "i")))
              (more_exprs (at 345 346) (alone (number 347 348 (pos 0))) no_more_exprs))) (at 348 349)) no_selectors)))) (more_statements (at 349 350)
              (call_statement (designator_of (ident 351 (codes "DEC")) (more_selectors (call_selector (at 354 355) (some_arguments (exprs_of (alone (name 355
              (codes "i"))) (more_exprs (at 356 357) (alone (number 358 359 (pos 3))) no_more_exprs))) (at 359 360)) no_selectors))) (more_statements (at 360
              361) (call_statement (designator_of (ident 362 (codes "Out")) (more_selectors (field_selector (record {
                period = (at 365 366);
                name = (ident 366
                    (codes "Int"));
              })) (more_selectors (call_selector (at 369 370) (some_arguments (exprs_of (alone (name 370 (codes "i"))) (more_exprs (at 371 372)
              (alone (number 373 374 (pos 0))) no_more_exprs))) (at 374 375)) no_selectors)))) (more_statements (at 375 376) (call_statement (designator_of
              (ident 377 (codes "Out")) (more_selectors (field_selector (record { period = (at 380 381); name = (ident 381 (codes "String")) }))
              (more_selectors (call_selector (at 387 388) (some_arguments (exprs_of (alone (string 388 390 [])) no_more_exprs)) (at 390 391)) no_selectors))))
              no_more_statements)))))))))))))))))))));
        }));
        end = (at 392 395);
        end_name = (ident 396 (codes "A"));
        period = (at 397 398);
      };
}

abbrev pub byte_of_256 : Source
byte_of_256 = record {
  stem = codes "A";
  text = codes "MODULE A; IMPORT Out; VAR n: BYTE; i: INTEGER; BEGIN i := 256; n := i; Out.String(\"\") END A.";
  tree =
      record {
        word = (at 0 6);
        name = (ident 7 (codes "A"));
        semicolon = (at 8 9);
        imports = (Some (record {
          word = (at 10 16);
          first = (record {
            name
                = (ident 17 (codes "Out"));
            alias = None;
          });
          rest = [];
          semicolon = (at 20 21);
        }));
        declarations = (record {
          constants = None;
          types = None;
          variables = (Some (record {
            word = (at 22 25);
            items = ((record {
              names = (record { first = (own (ident 26 (codes "n"))); rest = [] });
              colon =
                  (at 27 28);
              of_type = (named_type (named (ident 29 (codes "BYTE"))));
              semicolon = (at 33 34);
            }) ∷ (record {
              names = (record {
                first = (own (ident
                    35 (codes "i")));
                rest = [];
              });
              colon = (at 36 37);
              of_type = (named_type (named (ident 38 (codes "INTEGER"))));
              semicolon = (at 45 46);
            }) ∷ []);
          }));
        });
        procedures = [];
        body = (Some (record {
          word = (at 47 52);
          statements = (statements_of (assign_statement (designator_of (ident 53 (codes
              "i")) no_selectors) (at 55 57) (alone (number 58 61 (pos 256)))) (more_statements (at 61 62) (assign_statement (designator_of (ident 63 (codes
              "n")) no_selectors) (at 65 67) (alone (name 68 (codes "i")))) (more_statements (at 69 70) (call_statement (designator_of (ident 71 (codes "Out"))
              (more_selectors (field_selector (record { period = (at 74 75); name = (ident 75 (codes "String")) })) (more_selectors (call_selector (at 81 82)
              (some_arguments (exprs_of (alone (string 82 84 [])) no_more_exprs)) (at 84 85)) no_selectors)))) no_more_statements)));
        }));
        end = (at 86 89);
        end_name = (ident 90 (codes "A"));
        period = (at 91 92);
      };
}

abbrev pub byte_of_300 : Source
byte_of_300 = record {
  stem = codes "A";
  text = codes "MODULE A; IMPORT Out; VAR n: BYTE; i: INTEGER; BEGIN i := 300; n := i; Out.String(\"\") END A.";
  tree =
      record {
        word = (at 0 6);
        name = (ident 7 (codes "A"));
        semicolon = (at 8 9);
        imports = (Some (record {
          word = (at 10 16);
          first = (record {
            name
                = (ident 17 (codes "Out"));
            alias = None;
          });
          rest = [];
          semicolon = (at 20 21);
        }));
        declarations = (record {
          constants = None;
          types = None;
          variables = (Some (record {
            word = (at 22 25);
            items = ((record {
              names = (record { first = (own (ident 26 (codes "n"))); rest = [] });
              colon =
                  (at 27 28);
              of_type = (named_type (named (ident 29 (codes "BYTE"))));
              semicolon = (at 33 34);
            }) ∷ (record {
              names = (record {
                first = (own (ident
                    35 (codes "i")));
                rest = [];
              });
              colon = (at 36 37);
              of_type = (named_type (named (ident 38 (codes "INTEGER"))));
              semicolon = (at 45 46);
            }) ∷ []);
          }));
        });
        procedures = [];
        body = (Some (record {
          word = (at 47 52);
          statements = (statements_of (assign_statement (designator_of (ident 53 (codes
              "i")) no_selectors) (at 55 57) (alone (number 58 61 (pos 300)))) (more_statements (at 61 62) (assign_statement (designator_of (ident 63 (codes
              "n")) no_selectors) (at 65 67) (alone (name 68 (codes "i")))) (more_statements (at 69 70) (call_statement (designator_of (ident 71 (codes "Out"))
              (more_selectors (field_selector (record { period = (at 74 75); name = (ident 75 (codes "String")) })) (more_selectors (call_selector (at 81 82)
              (some_arguments (exprs_of (alone (string 82 84 [])) no_more_exprs)) (at 84 85)) no_selectors)))) no_more_statements)));
        }));
        end = (at 86 89);
        end_name = (ident 90 (codes "A"));
        period = (at 91 92);
      };
}

abbrev pub byte_below_zero : Source
byte_below_zero = record {
  stem = codes "A";
  text = codes "MODULE A; IMPORT Out; VAR n: BYTE; i: INTEGER; BEGIN i := -1; n := i; Out.String(\"\") END A.";
  tree =
      record {
        word = (at 0 6);
        name = (ident 7 (codes "A"));
        semicolon = (at 8 9);
        imports = (Some (record {
          word = (at 10 16);
          first = (record {
            name
                = (ident 17 (codes "Out"));
            alias = None;
          });
          rest = [];
          semicolon = (at 20 21);
        }));
        declarations = (record {
          constants = None;
          types = None;
          variables = (Some (record {
            word = (at 22 25);
            items = ((record {
              names = (record { first = (own (ident 26 (codes "n"))); rest = [] });
              colon =
                  (at 27 28);
              of_type = (named_type (named (ident 29 (codes "BYTE"))));
              semicolon = (at 33 34);
            }) ∷ (record {
              names = (record {
                first = (own (ident
                    35 (codes "i")));
                rest = [];
              });
              colon = (at 36 37);
              of_type = (named_type (named (ident 38 (codes "INTEGER"))));
              semicolon = (at 45 46);
            }) ∷ []);
          }));
        });
        procedures = [];
        body = (Some (record {
          word = (at 47 52);
          statements = (statements_of (assign_statement (designator_of (ident 53 (codes
              "i")) no_selectors) (at 55 57) (expr_of (simple_of (Some (record { sign = signs.Minus; span = (at 58 59) })) (just (number 59 60 (pos 1)))
              no_addends) no_relation)) (more_statements (at 60 61) (assign_statement (designator_of (ident 62 (codes "n")) no_selectors) (at 64 66) (alone
              (name 67 (codes "i")))) (more_statements (at 68 69) (call_statement (designator_of (ident 70 (codes "Out")) (more_selectors (field_selector
              (record { period = (at 73 74); name = (ident 74 (codes "String")) })) (more_selectors (call_selector (at 80 81) (some_arguments (exprs_of (alone
              (string 81 83 [])) no_more_exprs)) (at 83 84)) no_selectors)))) no_more_statements)));
        }));
        end = (at 85 88);
        end_name = (ident 89 (codes "A"));
        period = (at 90 91);
      };
}

abbrev pub inc_above_byte : Source
inc_above_byte = record {
  stem = codes "A";
  text = codes "MODULE A; IMPORT Out; VAR n: BYTE; BEGIN n := 255; INC(n); Out.String(\"\") END A.";
  tree =
      record {
        word = (at 0 6);
        name = (ident 7 (codes "A"));
        semicolon = (at 8 9);
        imports = (Some (record {
          word = (at 10 16);
          first = (record {
            name
                = (ident 17 (codes "Out"));
            alias = None;
          });
          rest = [];
          semicolon = (at 20 21);
        }));
        declarations = (record {
          constants = None;
          types = None;
          variables = (Some (record {
            word = (at 22 25);
            items = ((record {
              names = (record { first = (own (ident 26 (codes "n"))); rest = [] });
              colon =
                  (at 27 28);
              of_type = (named_type (named (ident 29 (codes "BYTE"))));
              semicolon = (at 33 34);
            }) ∷ []);
          }));
        });
        procedures = [];
        body = (Some
            (record {
              word = (at 35 40);
              statements = (statements_of (assign_statement (designator_of (ident 41 (codes "n")) no_selectors) (at 43 45) (alone
                  (number 46 49 (pos 255)))) (more_statements (at 49 50) (call_statement (designator_of (ident 51 (codes "INC")) (more_selectors (call_selector (at
                  54 55) (some_arguments (exprs_of (alone (name 55 (codes "n"))) no_more_exprs)) (at 56 57)) no_selectors))) (more_statements (at 57 58)
                  (call_statement (designator_of (ident 59 (codes "Out")) (more_selectors (field_selector (record {
                    period = (at 62 63);
                    name = (ident 63 (codes
                        "String"));
                  })) (more_selectors (call_selector (at 69 70) (some_arguments (exprs_of (alone (string 70 72 [])) no_more_exprs)) (at 72 73))
                  no_selectors)))) no_more_statements)));
            }));
        end = (at 74 77);
        end_name = (ident 78 (codes "A"));
        period = (at 79 80);
      };
}

abbrev pub inc_of_byte_overflows : Source
inc_of_byte_overflows = record {
  stem = codes "A";
  text = codes "MODULE A; IMPORT Out; VAR n: BYTE; BEGIN n := 255; INC(n, 2147483647); Out.String(\"\") END A.";
  tree =
      record {
        word = (at 0 6);
        name = (ident 7 (codes "A"));
        semicolon = (at 8 9);
        imports = (Some (record {
          word = (at 10 16);
          first = (record {
            name
                = (ident 17 (codes "Out"));
            alias = None;
          });
          rest = [];
          semicolon = (at 20 21);
        }));
        declarations = (record {
          constants = None;
          types = None;
          variables = (Some (record {
            word = (at 22 25);
            items = ((record {
              names = (record { first = (own (ident 26 (codes "n"))); rest = [] });
              colon =
                  (at 27 28);
              of_type = (named_type (named (ident 29 (codes "BYTE"))));
              semicolon = (at 33 34);
            }) ∷ []);
          }));
        });
        procedures = [];
        body = (Some
            (record {
              word = (at 35 40);
              statements = (statements_of (assign_statement (designator_of (ident 41 (codes "n")) no_selectors) (at 43 45) (alone
                  (number 46 49 (pos 255)))) (more_statements (at 49 50) (call_statement (designator_of (ident 51 (codes "INC")) (more_selectors (call_selector (at
                  54 55) (some_arguments (exprs_of (alone (name 55 (codes "n"))) (more_exprs (at 56 57) (alone (number 58 68 (pos 2147483647))) no_more_exprs)))
                  (at 68 69)) no_selectors))) (more_statements (at 69 70) (call_statement (designator_of (ident 71 (codes "Out")) (more_selectors (field_selector
                  (record { period = (at 74 75); name = (ident 75 (codes "String")) })) (more_selectors (call_selector (at 81 82) (some_arguments (exprs_of (alone
                  (string 82 84 [])) no_more_exprs)) (at 84 85)) no_selectors)))) no_more_statements)));
            }));
        end = (at 86 89);
        end_name = (ident 90 (codes "A"));
        period = (at 91 92);
      };
}

abbrev pub dec_below_byte : Source
dec_below_byte = record {
  stem = codes "A";
  text = codes "MODULE A; IMPORT Out; VAR n: BYTE; BEGIN DEC(n); Out.String(\"\") END A.";
  tree =
      record {
        word = (at 0 6);
        name = (ident 7 (codes "A"));
        semicolon = (at 8 9);
        imports = (Some (record {
          word = (at 10 16);
          first = (record {
            name
                = (ident 17 (codes "Out"));
            alias = None;
          });
          rest = [];
          semicolon = (at 20 21);
        }));
        declarations = (record {
          constants = None;
          types = None;
          variables = (Some (record {
            word = (at 22 25);
            items = ((record {
              names = (record { first = (own (ident 26 (codes "n"))); rest = [] });
              colon =
                  (at 27 28);
              of_type = (named_type (named (ident 29 (codes "BYTE"))));
              semicolon = (at 33 34);
            }) ∷ []);
          }));
        });
        procedures = [];
        body = (Some
            (record {
              word = (at 35 40);
              statements = (statements_of (call_statement (designator_of (ident 41 (codes "DEC")) (more_selectors (call_selector
                  (at 44 45) (some_arguments (exprs_of (alone (name 45 (codes "n"))) no_more_exprs)) (at 46 47)) no_selectors))) (more_statements (at 47 48)
                  (call_statement (designator_of (ident 49 (codes "Out")) (more_selectors (field_selector (record {
                    period = (at 52 53);
                    name = (ident 53 (codes
                        "String"));
                  })) (more_selectors (call_selector (at 59 60) (some_arguments (exprs_of (alone (string 60 62 [])) no_more_exprs)) (at 62 63))
                  no_selectors)))) no_more_statements));
            }));
        end = (at 64 67);
        end_name = (ident 68 (codes "A"));
        period = (at 69 70);
      };
}

abbrev pub byte_argument_of_256 : Source
byte_argument_of_256 = record {
  stem = codes "A";
  text = codes "MODULE A; IMPORT Out; PROCEDURE P(n: BYTE): BYTE; RETURN n END P; BEGIN Out.Int(P(256), 1); Out.String(\"\") END A.";
  tree =
      record {
        word = (at 0 6);
        name = (ident 7 (codes "A"));
        semicolon = (at 8 9);
        imports = (Some (record {
          word = (at 10 16);
          first = (record {
            name
                = (ident 17 (codes "Out"));
            alias = None;
          });
          rest = [];
          semicolon = (at 20 21);
        }));
        declarations = (record {
          constants = None;
          types = None;
          variables = None;
        });
        procedures = ((record {
          procedure = (record {
            word = (at 22 31);
            name = (own (ident 32 (codes "P")));
            formals = (Some
                (record {
                  opening = (at 33 34);
                  sections = (Some (record {
                    first = (record {
                      by_var = None;
                      names = (record {
                        first = (ident 34 (codes "n"));
                        rest = [];
                      });
                      colon = (at 35 36);
                      of_type = (record { opens = []; name = (named (ident 37 (codes "BYTE"))) });
                    });
                    rest = [];
                  }));
                  closing = (at 41
                      42);
                  result_type = (Some (record { colon = (at 42 43); name = (named (ident 44 (codes "BYTE"))) }));
                }));
            semicolon = (at 48 49);
            locals = (record
                { constants = None; variables = None });
            body = None;
            returns = (Some (record { word = (at 50 56); value = (alone (name 57 (codes "n"))) }));
            end
                = (at 59 62);
            end_name = (ident 63 (codes "P"));
          });
          semicolon = (at 64 65);
        }) ∷ []);
        body = (Some (record {
          word = (at 66 71);
          statements =
              (statements_of (call_statement (designator_of (ident 72 (codes "Out")) (more_selectors (field_selector (record {
                period = (at 75 76);
                name =
                    (ident 76 (codes "Int"));
              })) (more_selectors (call_selector (at 79 80) (some_arguments (exprs_of (alone (designator_factor (designator_of (ident
              80 (codes "P")) (more_selectors (call_selector (at 81 82) (some_arguments (exprs_of (alone (number 82 85 (pos 256))) no_more_exprs)) (at 85 86))
              no_selectors)))) (more_exprs (at 86 87) (alone (number 88 89 (pos 1))) no_more_exprs))) (at 89 90)) no_selectors)))) (more_statements (at 90 91)
              (call_statement (designator_of (ident 92 (codes "Out")) (more_selectors (field_selector (record {
                period = (at 95 96);
                name = (ident 96 (codes
                    "String"));
              })) (more_selectors (call_selector (at 102 103) (some_arguments (exprs_of (alone (string 103 105 [])) no_more_exprs)) (at 105 106))
              no_selectors)))) no_more_statements));
        }));
        end = (at 107 110);
        end_name = (ident 111 (codes "A"));
        period = (at 112 113);
      };
}

abbrev pub byte_result_of_256 : Source
byte_result_of_256 = record {
  stem = codes "A";
  text = codes "MODULE A; IMPORT Out; PROCEDURE P(n: INTEGER): BYTE; RETURN n END P; BEGIN Out.Int(P(256), 1); Out.String(\"\") END A.";
  tree =
      record {
        word = (at 0 6);
        name = (ident 7 (codes "A"));
        semicolon = (at 8 9);
        imports = (Some (record {
          word = (at 10 16);
          first = (record {
            name
                = (ident 17 (codes "Out"));
            alias = None;
          });
          rest = [];
          semicolon = (at 20 21);
        }));
        declarations = (record {
          constants = None;
          types = None;
          variables = None;
        });
        procedures = ((record {
          procedure = (record {
            word = (at 22 31);
            name = (own (ident 32 (codes "P")));
            formals = (Some
                (record {
                  opening = (at 33 34);
                  sections = (Some (record {
                    first = (record {
                      by_var = None;
                      names = (record {
                        first = (ident 34 (codes "n"));
                        rest = [];
                      });
                      colon = (at 35 36);
                      of_type = (record { opens = []; name = (named (ident 37 (codes "INTEGER"))) });
                    });
                    rest = [];
                  }));
                  closing = (at
                      44 45);
                  result_type = (Some (record { colon = (at 45 46); name = (named (ident 47 (codes "BYTE"))) }));
                }));
            semicolon = (at 51 52);
            locals =
                (record { constants = None; variables = None });
            body = None;
            returns = (Some (record {
              word = (at 53 59);
              value = (alone (name 60 (codes "n")));
            }));
            end = (at 62 65);
            end_name = (ident 66 (codes "P"));
          });
          semicolon = (at 67 68);
        }) ∷ []);
        body = (Some (record {
          word = (at 69 74);
          statements = (statements_of (call_statement (designator_of (ident 75 (codes "Out")) (more_selectors (field_selector (record {
            period = (at 78
                79);
            name = (ident 79 (codes "Int"));
          })) (more_selectors (call_selector (at 82 83) (some_arguments (exprs_of (alone (designator_factor
              (designator_of (ident 83 (codes "P")) (more_selectors (call_selector (at 84 85) (some_arguments (exprs_of (alone (number 85 88 (pos 256)))
              no_more_exprs)) (at 88 89)) no_selectors)))) (more_exprs (at 89 90) (alone (number 91 92 (pos 1))) no_more_exprs))) (at 92 93)) no_selectors))))
              (more_statements (at 93 94) (call_statement (designator_of (ident 95 (codes "Out")) (more_selectors (field_selector (record {
                period = (at 98
                    99);
                name = (ident 99 (codes "String"));
              })) (more_selectors (call_selector (at 105 106) (some_arguments (exprs_of (alone (string 106 108 []))
              no_more_exprs)) (at 108 109)) no_selectors)))) no_more_statements));
        }));
        end = (at 110 113);
        end_name = (ident 114 (codes "A"));
        period = (at 115
            116);
      };
}

abbrev pub chr_of_256 : Source
chr_of_256 = record {
  stem = codes "A";
  text = codes "MODULE A; IMPORT Out; VAR c: CHAR; i: INTEGER; BEGIN i := 256; c := CHR(i); Out.String(\"\") END A.";
  tree =
      record {
        word = (at 0 6);
        name = (ident 7 (codes "A"));
        semicolon = (at 8 9);
        imports = (Some (record {
          word = (at 10 16);
          first = (record {
            name
                = (ident 17 (codes "Out"));
            alias = None;
          });
          rest = [];
          semicolon = (at 20 21);
        }));
        declarations = (record {
          constants = None;
          types = None;
          variables = (Some (record {
            word = (at 22 25);
            items = ((record {
              names = (record { first = (own (ident 26 (codes "c"))); rest = [] });
              colon =
                  (at 27 28);
              of_type = (named_type (named (ident 29 (codes "CHAR"))));
              semicolon = (at 33 34);
            }) ∷ (record {
              names = (record {
                first = (own (ident
                    35 (codes "i")));
                rest = [];
              });
              colon = (at 36 37);
              of_type = (named_type (named (ident 38 (codes "INTEGER"))));
              semicolon = (at 45 46);
            }) ∷ []);
          }));
        });
        procedures = [];
        body = (Some (record {
          word = (at 47 52);
          statements = (statements_of (assign_statement (designator_of (ident 53 (codes
              "i")) no_selectors) (at 55 57) (alone (number 58 61 (pos 256)))) (more_statements (at 61 62) (assign_statement (designator_of (ident 63 (codes
              "c")) no_selectors) (at 65 67) (alone (designator_factor (designator_of (ident 68 (codes "CHR")) (more_selectors (call_selector (at 71 72)
              (some_arguments (exprs_of (alone (name 72 (codes "i"))) no_more_exprs)) (at 73 74)) no_selectors))))) (more_statements (at 74 75) (call_statement
              (designator_of (ident 76 (codes "Out")) (more_selectors (field_selector (record { period = (at 79 80); name = (ident 80 (codes "String")) }))
              (more_selectors (call_selector (at 86 87) (some_arguments (exprs_of (alone (string 87 89 [])) no_more_exprs)) (at 89 90)) no_selectors))))
              no_more_statements)));
        }));
        end = (at 91 94);
        end_name = (ident 95 (codes "A"));
        period = (at 96 97);
      };
}
