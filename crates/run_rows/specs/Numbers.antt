-- Small modules, with their texts and their trees, that show what sums, quotients and numbers in places come to, the traps of overflow and division, and operators that don't fit.
use Rattle.std.specs.Prelude.{codes, [], ◌∷◌, None, Some, pos, negsuc}
use Rattle.oberon_tree.specs.declared.expression.Relator.TheVariants as relators
use Rattle.oberon_tree.specs.declared.expression.Sign.TheVariants as signs
use Rattle.oberon_tree.specs.declared.expression.AddOperator.TheVariants as adds
use Rattle.oberon_tree.specs.declared.expression.MulOperator.TheVariants as muls
use Rattle.oberon_tree.specs.Trees.{no_relation, relation_of, expr_of, simple_of, no_addends, more_addends, term_of, no_multipliers, more_multipliers, designator_factor, group_factor, negation_factor, designator_of, no_selectors, more_selectors, field_selector, call_selector, no_arguments, some_arguments, exprs_of, no_more_exprs, more_exprs, named_type, no_step, statements_of, no_more_statements, more_statements, empty_statement, assign_statement, call_statement, if_statement, for_statement, if_of, guarded_of, no_elsifs, no_else, for_of}
use Rattle.run_rules.specs.Linked.{Source}
use Rattle.run_rows.specs.Parts.{at, ident, own, named, just, plain, alone, number, string, name}

abbrev pub sign_covers_its_term : Source
sign_covers_its_term = record {
  stem = codes "A";
  text = codes "MODULE A; IMPORT Out; BEGIN Out.Int(-7 DIV 2, 4); Out.Char(\"x\"); Out.Ln; Out.Char(\"y\") END A.";
  tree =
      record {
        word = (at 0 6);
        name = (ident 7 (codes "A"));
        semicolon = (at 8 9);
        imports = (Some (record {
          word = (at 10 16);
          first = (record {
            name
                = (ident 17 (codes "Out"));
            alias = None;
          });
          rest = [];
          semicolon = (at 20 21);
        }));
        declarations = (record {
          constants = None;
          types = None;
          variables = None;
        });
        procedures = [];
        body = (Some (record {
          word = (at 22 27);
          statements = (statements_of (call_statement (designator_of (ident
              28 (codes "Out")) (more_selectors (field_selector (record { period = (at 31 32); name = (ident 32 (codes "Int")) })) (more_selectors
              (call_selector (at 35 36) (some_arguments (exprs_of (expr_of (simple_of (Some (record { sign = signs.Minus; span = (at 36 37) })) (term_of
              (number 37 38 (pos 7)) (more_multipliers muls.Div (at 39 42) (number 43 44 (pos 2)) no_multipliers)) no_addends) no_relation) (more_exprs (at 44
              45) (alone (number 46 47 (pos 4))) no_more_exprs))) (at 47 48)) no_selectors)))) (more_statements (at 48 49) (call_statement (designator_of
              (ident 50 (codes "Out")) (more_selectors (field_selector (record { period = (at 53 54); name = (ident 54 (codes "Char")) })) (more_selectors
              (call_selector (at 58 59) (some_arguments (exprs_of (alone (string 59 62 (codes "x"))) no_more_exprs)) (at 62 63)) no_selectors))))
              (more_statements (at 63 64) (call_statement (designator_of (ident 65 (codes "Out")) (more_selectors (field_selector (record {
                period = (at 68
                    69);
                name = (ident 69 (codes "Ln"));
              })) no_selectors))) (more_statements (at 71 72) (call_statement (designator_of (ident 73 (codes "Out"))
              (more_selectors (field_selector (record { period = (at 76 77); name = (ident 77 (codes "Char")) })) (more_selectors (call_selector (at 81 82)
              (some_arguments (exprs_of (alone (string 82 85 (codes "y"))) no_more_exprs)) (at 85 86)) no_selectors)))) no_more_statements))));
        }));
        end = (at
            87 90);
        end_name = (ident 91 (codes "A"));
        period = (at 92 93);
      };
}

abbrev pub quotients_round_down : Source
quotients_round_down = record {
  stem = codes "A";
  text = codes "MODULE A; IMPORT Out;  BEGIN Out.Int(-7 DIV 2, 4); Out.Int((-7) DIV 2, 4); Out.Int((-7) MOD 2, 2); Out.String(\"\") END A.";
  tree =
      record {
        word = (at 0 6);
        name = (ident 7 (codes "A"));
        semicolon = (at 8 9);
        imports = (Some (record {
          word = (at 10 16);
          first = (record {
            name
                = (ident 17 (codes "Out"));
            alias = None;
          });
          rest = [];
          semicolon = (at 20 21);
        }));
        declarations = (record {
          constants = None;
          types = None;
          variables = None;
        });
        procedures = [];
        body = (Some (record {
          word = (at 23 28);
          statements = (statements_of (call_statement (designator_of (ident
              29 (codes "Out")) (more_selectors (field_selector (record { period = (at 32 33); name = (ident 33 (codes "Int")) })) (more_selectors
              (call_selector (at 36 37) (some_arguments (exprs_of (expr_of (simple_of (Some (record { sign = signs.Minus; span = (at 37 38) })) (term_of
              (number 38 39 (pos 7)) (more_multipliers muls.Div (at 40 43) (number 44 45 (pos 2)) no_multipliers)) no_addends) no_relation) (more_exprs (at 45
              46) (alone (number 47 48 (pos 4))) no_more_exprs))) (at 48 49)) no_selectors)))) (more_statements (at 49 50) (call_statement (designator_of
              (ident 51 (codes "Out")) (more_selectors (field_selector (record { period = (at 54 55); name = (ident 55 (codes "Int")) })) (more_selectors
              (call_selector (at 58 59) (some_arguments (exprs_of (expr_of (simple_of None (term_of (group_factor (at 59 60) (expr_of (simple_of (Some (record
              { sign = signs.Minus; span = (at 60 61) })) (just (number 61 62 (pos 7))) no_addends) no_relation) (at 62 63)) (more_multipliers muls.Div (at 64
              67) (number 68 69 (pos 2)) no_multipliers)) no_addends) no_relation) (more_exprs (at 69 70) (alone (number 71 72 (pos 4))) no_more_exprs))) (at
              72 73)) no_selectors)))) (more_statements (at 73 74) (call_statement (designator_of (ident 75 (codes "Out")) (more_selectors (field_selector
              (record { period = (at 78 79); name = (ident 79 (codes "Int")) })) (more_selectors (call_selector (at 82 83) (some_arguments (exprs_of (expr_of
              (simple_of None (term_of (group_factor (at 83 84) (expr_of (simple_of (Some (record { sign = signs.Minus; span = (at 84 85) })) (just (number 85
              86 (pos 7))) no_addends) no_relation) (at 86 87)) (more_multipliers muls.Mod (at 88 91) (number 92 93 (pos 2)) no_multipliers)) no_addends)
              no_relation) (more_exprs (at 93 94) (alone (number 95 96 (pos 2))) no_more_exprs))) (at 96 97)) no_selectors)))) (more_statements (at 97 98)
              (call_statement (designator_of (ident 99 (codes "Out")) (more_selectors (field_selector (record {
                period = (at 102 103);
                name = (ident 103 (codes
                    "String"));
              })) (more_selectors (call_selector (at 109 110) (some_arguments (exprs_of (alone (string 110 112 [])) no_more_exprs)) (at 112 113))
              no_selectors)))) no_more_statements))));
        }));
        end = (at 114 117);
        end_name = (ident 118 (codes "A"));
        period = (at 119 120);
      };
}

abbrev pub numbers_in_places : Source
numbers_in_places = record {
  stem = codes "A";
  text = codes "MODULE A; IMPORT Out;  BEGIN Out.Int(0FFFFFFFFH, 0); Out.Int(5, -3); Out.Int(12345, 3); Out.String(\"\") END A.";
  tree =
      record {
        word = (at 0 6);
        name = (ident 7 (codes "A"));
        semicolon = (at 8 9);
        imports = (Some (record {
          word = (at 10 16);
          first = (record {
            name
                = (ident 17 (codes "Out"));
            alias = None;
          });
          rest = [];
          semicolon = (at 20 21);
        }));
        declarations = (record {
          constants = None;
          types = None;
          variables = None;
        });
        procedures = [];
        body = (Some (record {
          word = (at 23 28);
          statements = (statements_of (call_statement (designator_of (ident
              29 (codes "Out")) (more_selectors (field_selector (record { period = (at 32 33); name = (ident 33 (codes "Int")) })) (more_selectors
              (call_selector (at 36 37) (some_arguments (exprs_of (alone (number 37 47 (negsuc 0))) (more_exprs (at 47 48) (alone (number 49 50 (pos 0)))
              no_more_exprs))) (at 50 51)) no_selectors)))) (more_statements (at 51 52) (call_statement (designator_of (ident 53 (codes "Out")) (more_selectors
              (field_selector (record { period = (at 56 57); name = (ident 57 (codes "Int")) })) (more_selectors (call_selector (at 60 61) (some_arguments
              (exprs_of (alone (number 61 62 (pos 5))) (more_exprs (at 62 63) (expr_of (simple_of (Some (record { sign = signs.Minus; span = (at 64 65) }))
              (just (number 65 66 (pos 3))) no_addends) no_relation) no_more_exprs))) (at 66 67)) no_selectors)))) (more_statements (at 67 68) (call_statement
              (designator_of (ident 69 (codes "Out")) (more_selectors (field_selector (record { period = (at 72 73); name = (ident 73 (codes "Int")) }))
              (more_selectors (call_selector (at 76 77) (some_arguments (exprs_of (alone (number 77 82 (pos 12345))) (more_exprs (at 82 83) (alone (number 84
              85 (pos 3))) no_more_exprs))) (at 85 86)) no_selectors)))) (more_statements (at 86 87) (call_statement (designator_of (ident 88 (codes "Out"))
              (more_selectors (field_selector (record { period = (at 91 92); name = (ident 92 (codes "String")) })) (more_selectors (call_selector (at 98 99)
              (some_arguments (exprs_of (alone (string 99 101 [])) no_more_exprs)) (at 101 102)) no_selectors)))) no_more_statements))));
        }));
        end = (at 103
            106);
        end_name = (ident 107 (codes "A"));
        period = (at 108 109);
      };
}

abbrev pub inc_and_dec : Source
inc_and_dec = record {
  stem = codes "A";
  text = codes "MODULE A; IMPORT Out; VAR x, y: INTEGER; BEGIN x := 3; y := x; INC(x, y); DEC(y, 4); Out.Int(x, 0); Out.Int(y, 3); Out.Ln() END A.";
  tree =
      record {
        word = (at 0 6);
        name = (ident 7 (codes "A"));
        semicolon = (at 8 9);
        imports = (Some (record {
          word = (at 10 16);
          first = (record {
            name
                = (ident 17 (codes "Out"));
            alias = None;
          });
          rest = [];
          semicolon = (at 20 21);
        }));
        declarations = (record {
          constants = None;
          types = None;
          variables = (Some (record {
            word = (at 22 25);
            items = ((record {
              names = (record {
                first = (own (ident 26 (codes "x")));
                rest = ((record {
                  comma
                      = (at 27 28);
                  ident = (own (ident 29 (codes "y")));
                }) ∷ []);
              });
              colon = (at 30 31);
              of_type = (named_type (named (ident 32 (codes "INTEGER"))));
              semicolon = (at 39 40);
            }) ∷ []);
          }));
        });
        procedures = [];
        body = (Some (record {
          word = (at 41 46);
          statements = (statements_of (assign_statement
              (designator_of (ident 47 (codes "x")) no_selectors) (at 49 51) (alone (number 52 53 (pos 3)))) (more_statements (at 53 54) (assign_statement
              (designator_of (ident 55 (codes "y")) no_selectors) (at 57 59) (alone (name 60 (codes "x")))) (more_statements (at 61 62) (call_statement
              (designator_of (ident 63 (codes "INC")) (more_selectors (call_selector (at 66 67) (some_arguments (exprs_of (alone (name 67 (codes "x")))
              (more_exprs (at 68 69) (alone (name 70 (codes "y"))) no_more_exprs))) (at 71 72)) no_selectors))) (more_statements (at 72 73) (call_statement
              (designator_of (ident 74 (codes "DEC")) (more_selectors (call_selector (at 77 78) (some_arguments (exprs_of (alone (name 78 (codes "y")))
              (more_exprs (at 79 80) (alone (number 81 82 (pos 4))) no_more_exprs))) (at 82 83)) no_selectors))) (more_statements (at 83 84) (call_statement
              (designator_of (ident 85 (codes "Out")) (more_selectors (field_selector (record { period = (at 88 89); name = (ident 89 (codes "Int")) }))
              (more_selectors (call_selector (at 92 93) (some_arguments (exprs_of (alone (name 93 (codes "x"))) (more_exprs (at 94 95) (alone (number 96 97
              (pos 0))) no_more_exprs))) (at 97 98)) no_selectors)))) (more_statements (at 98 99) (call_statement (designator_of (ident 100 (codes "Out"))
              (more_selectors (field_selector (record { period = (at 103 104); name = (ident 104 (codes "Int")) })) (more_selectors (call_selector (at 107 108)
              (some_arguments (exprs_of (alone (name 108 (codes "y"))) (more_exprs (at 109 110) (alone (number 111 112 (pos 3))) no_more_exprs))) (at 112 113))
              no_selectors)))) (more_statements (at 113 114) (call_statement (designator_of (ident 115 (codes "Out")) (more_selectors (field_selector (record {
                period = (at 118 119);
                name = (ident 119 (codes "Ln"));
              })) (more_selectors (call_selector (at 121 122) no_arguments (at 122 123))
              no_selectors)))) no_more_statements)))))));
        }));
        end = (at 124 127);
        end_name = (ident 128 (codes "A"));
        period = (at 129 130);
      };
}

abbrev pub sum_overflows : Source
sum_overflows = record {
  stem = codes "A";
  text = codes "MODULE A; IMPORT Out; VAR i: INTEGER; BEGIN i := 2147483647; i := i + 1; Out.String(\"\") END A.";
  tree =
      record {
        word = (at 0 6);
        name = (ident 7 (codes "A"));
        semicolon = (at 8 9);
        imports = (Some (record {
          word = (at 10 16);
          first = (record {
            name
                = (ident 17 (codes "Out"));
            alias = None;
          });
          rest = [];
          semicolon = (at 20 21);
        }));
        declarations = (record {
          constants = None;
          types = None;
          variables = (Some (record {
            word = (at 22 25);
            items = ((record {
              names = (record { first = (own (ident 26 (codes "i"))); rest = [] });
              colon =
                  (at 27 28);
              of_type = (named_type (named (ident 29 (codes "INTEGER"))));
              semicolon = (at 36 37);
            }) ∷ []);
          }));
        });
        procedures = [];
        body = (Some
            (record {
              word = (at 38 43);
              statements = (statements_of (assign_statement (designator_of (ident 44 (codes "i")) no_selectors) (at 46 48) (alone
                  (number 49 59 (pos 2147483647)))) (more_statements (at 59 60) (assign_statement (designator_of (ident 61 (codes "i")) no_selectors) (at 63 65)
                  (expr_of (simple_of None (just (name 66 (codes "i"))) (more_addends adds.Add (at 68 69) (just (number 70 71 (pos 1))) no_addends)) no_relation))
                  (more_statements (at 71 72) (call_statement (designator_of (ident 73 (codes "Out")) (more_selectors (field_selector (record {
                    period = (at 76
                        77);
                    name = (ident 77 (codes "String"));
                  })) (more_selectors (call_selector (at 83 84) (some_arguments (exprs_of (alone (string 84 86 []))
                  no_more_exprs)) (at 86 87)) no_selectors)))) no_more_statements)));
            }));
        end = (at 88 91);
        end_name = (ident 92 (codes "A"));
        period = (at 93 94);
      };
}

abbrev pub sign_overflows : Source
sign_overflows = record {
  stem = codes "A";
  text = codes "MODULE A; IMPORT Out; VAR i: INTEGER; BEGIN i := 80000000H; i := -i; Out.String(\"\") END A.";
  tree =
      record {
        word = (at 0 6);
        name = (ident 7 (codes "A"));
        semicolon = (at 8 9);
        imports = (Some (record {
          word = (at 10 16);
          first = (record {
            name
                = (ident 17 (codes "Out"));
            alias = None;
          });
          rest = [];
          semicolon = (at 20 21);
        }));
        declarations = (record {
          constants = None;
          types = None;
          variables = (Some (record {
            word = (at 22 25);
            items = ((record {
              names = (record { first = (own (ident 26 (codes "i"))); rest = [] });
              colon =
                  (at 27 28);
              of_type = (named_type (named (ident 29 (codes "INTEGER"))));
              semicolon = (at 36 37);
            }) ∷ []);
          }));
        });
        procedures = [];
        body = (Some
            (record {
              word = (at 38 43);
              statements = (statements_of (assign_statement (designator_of (ident 44 (codes "i")) no_selectors) (at 46 48) (alone
                  (number 49 58 (negsuc 2147483647)))) (more_statements (at 58 59) (assign_statement (designator_of (ident 60 (codes "i")) no_selectors) (at 62 64)
                  (expr_of (simple_of (Some (record { sign = signs.Minus; span = (at 65 66) })) (just (name 66 (codes "i"))) no_addends) no_relation))
                  (more_statements (at 67 68) (call_statement (designator_of (ident 69 (codes "Out")) (more_selectors (field_selector (record {
                    period = (at 72
                        73);
                    name = (ident 73 (codes "String"));
                  })) (more_selectors (call_selector (at 79 80) (some_arguments (exprs_of (alone (string 80 82 []))
                  no_more_exprs)) (at 82 83)) no_selectors)))) no_more_statements)));
            }));
        end = (at 84 87);
        end_name = (ident 88 (codes "A"));
        period = (at 89 90);
      };
}

abbrev pub absolute_value_overflows : Source
absolute_value_overflows = record {
  stem = codes "A";
  text = codes "MODULE A; IMPORT Out; VAR i: INTEGER; BEGIN i := 80000000H; i := ABS(i); Out.String(\"\") END A.";
  tree =
      record {
        word = (at 0 6);
        name = (ident 7 (codes "A"));
        semicolon = (at 8 9);
        imports = (Some (record {
          word = (at 10 16);
          first = (record {
            name
                = (ident 17 (codes "Out"));
            alias = None;
          });
          rest = [];
          semicolon = (at 20 21);
        }));
        declarations = (record {
          constants = None;
          types = None;
          variables = (Some (record {
            word = (at 22 25);
            items = ((record {
              names = (record { first = (own (ident 26 (codes "i"))); rest = [] });
              colon =
                  (at 27 28);
              of_type = (named_type (named (ident 29 (codes "INTEGER"))));
              semicolon = (at 36 37);
            }) ∷ []);
          }));
        });
        procedures = [];
        body = (Some
            (record {
              word = (at 38 43);
              statements = (statements_of (assign_statement (designator_of (ident 44 (codes "i")) no_selectors) (at 46 48) (alone
                  (number 49 58 (negsuc 2147483647)))) (more_statements (at 58 59) (assign_statement (designator_of (ident 60 (codes "i")) no_selectors) (at 62 64)
                  (alone (designator_factor (designator_of (ident 65 (codes "ABS")) (more_selectors (call_selector (at 68 69) (some_arguments (exprs_of (alone
                  (name 69 (codes "i"))) no_more_exprs)) (at 70 71)) no_selectors))))) (more_statements (at 71 72) (call_statement (designator_of (ident 73 (codes
                  "Out")) (more_selectors (field_selector (record { period = (at 76 77); name = (ident 77 (codes "String")) })) (more_selectors (call_selector (at
                  83 84) (some_arguments (exprs_of (alone (string 84 86 [])) no_more_exprs)) (at 86 87)) no_selectors)))) no_more_statements)));
            }));
        end = (at 88
            91);
        end_name = (ident 92 (codes "A"));
        period = (at 93 94);
      };
}

abbrev pub inc_overflows : Source
inc_overflows = record {
  stem = codes "A";
  text = codes "MODULE A; IMPORT Out; VAR i: INTEGER; BEGIN i := 2147483647; INC(i); Out.String(\"\") END A.";
  tree =
      record {
        word = (at 0 6);
        name = (ident 7 (codes "A"));
        semicolon = (at 8 9);
        imports = (Some (record {
          word = (at 10 16);
          first = (record {
            name
                = (ident 17 (codes "Out"));
            alias = None;
          });
          rest = [];
          semicolon = (at 20 21);
        }));
        declarations = (record {
          constants = None;
          types = None;
          variables = (Some (record {
            word = (at 22 25);
            items = ((record {
              names = (record { first = (own (ident 26 (codes "i"))); rest = [] });
              colon =
                  (at 27 28);
              of_type = (named_type (named (ident 29 (codes "INTEGER"))));
              semicolon = (at 36 37);
            }) ∷ []);
          }));
        });
        procedures = [];
        body = (Some
            (record {
              word = (at 38 43);
              statements = (statements_of (assign_statement (designator_of (ident 44 (codes "i")) no_selectors) (at 46 48) (alone
                  (number 49 59 (pos 2147483647)))) (more_statements (at 59 60) (call_statement (designator_of (ident 61 (codes "INC")) (more_selectors
                  (call_selector (at 64 65) (some_arguments (exprs_of (alone (name 65 (codes "i"))) no_more_exprs)) (at 66 67)) no_selectors))) (more_statements
                  (at 67 68) (call_statement (designator_of (ident 69 (codes "Out")) (more_selectors (field_selector (record {
                    period = (at 72 73);
                    name = (ident
                        73 (codes "String"));
                  })) (more_selectors (call_selector (at 79 80) (some_arguments (exprs_of (alone (string 80 82 [])) no_more_exprs)) (at 82
                  83)) no_selectors)))) no_more_statements)));
            }));
        end = (at 84 87);
        end_name = (ident 88 (codes "A"));
        period = (at 89 90);
      };
}

abbrev pub step_of_for_overflows : Source
step_of_for_overflows = record {
  stem = codes "A";
  text = codes "MODULE A; IMPORT Out; VAR i: INTEGER; BEGIN FOR i := 2147483647 TO 2147483647 DO END; Out.String(\"\") END A.";
  tree =
      record {
        word = (at 0 6);
        name = (ident 7 (codes "A"));
        semicolon = (at 8 9);
        imports = (Some (record {
          word = (at 10 16);
          first = (record {
            name
                = (ident 17 (codes "Out"));
            alias = None;
          });
          rest = [];
          semicolon = (at 20 21);
        }));
        declarations = (record {
          constants = None;
          types = None;
          variables = (Some (record {
            word = (at 22 25);
            items = ((record {
              names = (record { first = (own (ident 26 (codes "i"))); rest = [] });
              colon =
                  (at 27 28);
              of_type = (named_type (named (ident 29 (codes "INTEGER"))));
              semicolon = (at 36 37);
            }) ∷ []);
          }));
        });
        procedures = [];
        body = (Some
            (record {
              word = (at 38 43);
              statements = (statements_of (for_statement (for_of (at 44 47) (ident 48 (codes "i")) (at 50 52) (alone (number 53 63
                  (pos 2147483647))) (at 64 66) (alone (number 67 77 (pos 2147483647))) no_step (at 78 80) (statements_of empty_statement no_more_statements) (at
                  81 84))) (more_statements (at 84 85) (call_statement (designator_of (ident 86 (codes "Out")) (more_selectors (field_selector (record {
                    period =
                        (at 89 90);
                    name = (ident 90 (codes "String"));
                  })) (more_selectors (call_selector (at 96 97) (some_arguments (exprs_of (alone (string 97 99 []))
                  no_more_exprs)) (at 99 100)) no_selectors)))) no_more_statements));
            }));
        end = (at 101 104);
        end_name = (ident 105 (codes "A"));
        period = (at 106
            107);
      };
}

abbrev pub sum_on_the_fourth_line : Source
sum_on_the_fourth_line = record {
  stem = codes "A";
  text = codes "MODULE A;\nVAR i: INTEGER;\nBEGIN i := 2147483647;\n  IF (i > 5) OR (i DIV 0 = 1) THEN i := i + 1 END\nEND A.";
  tree =
      record {
        word = (at 0 6);
        name = (ident 7 (codes "A"));
        semicolon = (at 8 9);
        imports = None;
        declarations = (record {
          constants = None;
          types =
              None;
          variables = (Some (record {
            word = (at 10 13);
            items = ((record {
              names = (record { first = (own (ident 14 (codes "i"))); rest = [] });
              colon = (at 15 16);
              of_type = (named_type (named (ident 17 (codes "INTEGER"))));
              semicolon = (at 24 25);
            }) ∷ []);
          }));
        });
        procedures = [];
        body =
            (Some (record {
              word = (at 26 31);
              statements = (statements_of (assign_statement (designator_of (ident 32 (codes "i")) no_selectors) (at 34 36)
                  (alone (number 37 47 (pos 2147483647)))) (more_statements (at 47 48) (if_statement (if_of (guarded_of (at 51 53) (expr_of (simple_of None (just
                  (group_factor (at 54 55) (expr_of (plain (name 55 (codes "i"))) (relation_of relators.Greater (at 57 58) (plain (number 59 60 (pos 5))))) (at 60
                  61))) (more_addends adds.Or (at 62 64) (just (group_factor (at 65 66) (expr_of (simple_of None (term_of (name 66 (codes "i")) (more_multipliers
                  muls.Div (at 68 71) (number 72 73 (pos 0)) no_multipliers)) no_addends) (relation_of relators.Equal (at 74 75) (plain (number 76 77 (pos 1)))))
                  (at 77 78))) no_addends)) no_relation) (at 79 83) (statements_of (assign_statement (designator_of (ident 84 (codes "i")) no_selectors) (at 86 88)
                  (expr_of (simple_of None (just (name 89 (codes "i"))) (more_addends adds.Add (at 91 92) (just (number 93 94 (pos 1))) no_addends)) no_relation))
                  no_more_statements)) no_elsifs no_else (at 95 98))) no_more_statements));
            }));
        end = (at 99 102);
        end_name = (ident 103 (codes "A"));
        period = (at
            104 105);
      };
}

abbrev pub mod_by_zero : Source
mod_by_zero = record {
  stem = codes "A";
  text = codes "MODULE A; IMPORT Out; VAR i: INTEGER; BEGIN i := 0; i := 5 MOD i; Out.String(\"\") END A.";
  tree =
      record {
        word = (at 0 6);
        name = (ident 7 (codes "A"));
        semicolon = (at 8 9);
        imports = (Some (record {
          word = (at 10 16);
          first = (record {
            name
                = (ident 17 (codes "Out"));
            alias = None;
          });
          rest = [];
          semicolon = (at 20 21);
        }));
        declarations = (record {
          constants = None;
          types = None;
          variables = (Some (record {
            word = (at 22 25);
            items = ((record {
              names = (record { first = (own (ident 26 (codes "i"))); rest = [] });
              colon =
                  (at 27 28);
              of_type = (named_type (named (ident 29 (codes "INTEGER"))));
              semicolon = (at 36 37);
            }) ∷ []);
          }));
        });
        procedures = [];
        body = (Some
            (record {
              word = (at 38 43);
              statements = (statements_of (assign_statement (designator_of (ident 44 (codes "i")) no_selectors) (at 46 48) (alone
                  (number 49 50 (pos 0)))) (more_statements (at 50 51) (assign_statement (designator_of (ident 52 (codes "i")) no_selectors) (at 54 56) (expr_of
                  (simple_of None (term_of (number 57 58 (pos 5)) (more_multipliers muls.Mod (at 59 62) (name 63 (codes "i")) no_multipliers)) no_addends)
                  no_relation)) (more_statements (at 64 65) (call_statement (designator_of (ident 66 (codes "Out")) (more_selectors (field_selector (record {
                    period = (at 69 70);
                    name = (ident 70 (codes "String"));
                  })) (more_selectors (call_selector (at 76 77) (some_arguments (exprs_of (alone (string 77
                  79 [])) no_more_exprs)) (at 79 80)) no_selectors)))) no_more_statements)));
            }));
        end = (at 81 84);
        end_name = (ident 85 (codes "A"));
        period = (at
            86 87);
      };
}

abbrev pub div_by_negative : Source
div_by_negative = record {
  stem = codes "A";
  text = codes "MODULE A; IMPORT Out; VAR i: INTEGER; BEGIN i := -2; i := 5 DIV i; Out.String(\"\") END A.";
  tree =
      record {
        word = (at 0 6);
        name = (ident 7 (codes "A"));
        semicolon = (at 8 9);
        imports = (Some (record {
          word = (at 10 16);
          first = (record {
            name
                = (ident 17 (codes "Out"));
            alias = None;
          });
          rest = [];
          semicolon = (at 20 21);
        }));
        declarations = (record {
          constants = None;
          types = None;
          variables = (Some (record {
            word = (at 22 25);
            items = ((record {
              names = (record { first = (own (ident 26 (codes "i"))); rest = [] });
              colon =
                  (at 27 28);
              of_type = (named_type (named (ident 29 (codes "INTEGER"))));
              semicolon = (at 36 37);
            }) ∷ []);
          }));
        });
        procedures = [];
        body = (Some
            (record {
              word = (at 38 43);
              statements = (statements_of (assign_statement (designator_of (ident 44 (codes "i")) no_selectors) (at 46 48)
                  (expr_of (simple_of (Some (record { sign = signs.Minus; span = (at 49 50) })) (just (number 50 51 (pos 2))) no_addends) no_relation))
                  (more_statements (at 51 52) (assign_statement (designator_of (ident 53 (codes "i")) no_selectors) (at 55 57) (expr_of (simple_of None (term_of
                  (number 58 59 (pos 5)) (more_multipliers muls.Div (at 60 63) (name 64 (codes "i")) no_multipliers)) no_addends) no_relation)) (more_statements
                  (at 65 66) (call_statement (designator_of (ident 67 (codes "Out")) (more_selectors (field_selector (record {
                    period = (at 70 71);
                    name = (ident
                        71 (codes "String"));
                  })) (more_selectors (call_selector (at 77 78) (some_arguments (exprs_of (alone (string 78 80 [])) no_more_exprs)) (at 80
                  81)) no_selectors)))) no_more_statements)));
            }));
        end = (at 82 85);
        end_name = (ident 86 (codes "A"));
        period = (at 87 88);
      };
}

abbrev pub not_of_a_number : Source
not_of_a_number = record {
  stem = codes "A";
  text = codes "MODULE A; VAR b: BOOLEAN; BEGIN b := ~5 END A.";
  tree =
      record {
        word = (at 0 6);
        name = (ident 7 (codes "A"));
        semicolon = (at 8 9);
        imports = None;
        declarations = (record {
          constants = None;
          types = None;
          variables = (Some (record {
            word = (at 10 13);
            items = ((record {
              names = (record { first = (own (ident 14 (codes "b"))); rest = [] });
              colon = (at 15 16);
              of_type = (named_type (named (ident 17 (codes "BOOLEAN"))));
              semicolon = (at 24 25);
            }) ∷ []);
          }));
        });
        procedures = [];
        body = (Some (record {
          word = (at 26 31);
          statements = (statements_of (assign_statement (designator_of (ident 32 (codes "b")) no_selectors) (at 34 36) (alone (negation_factor (at 37 38) (number 38
              39 (pos 5))))) no_more_statements);
        }));
        end = (at 40 43);
        end_name = (ident 44 (codes "A"));
        period = (at 45 46);
      };
}

abbrev pub slash_between_numbers : Source
slash_between_numbers = record {
  stem = codes "A";
  text = codes "MODULE A; VAR i: INTEGER; BEGIN i := 1 / 2 END A.";
  tree =
      record {
        word = (at 0 6);
        name = (ident 7 (codes "A"));
        semicolon = (at 8 9);
        imports = None;
        declarations = (record {
          constants = None;
          types = None;
          variables = (Some (record {
            word = (at 10 13);
            items = ((record {
              names = (record { first = (own (ident 14 (codes "i"))); rest = [] });
              colon = (at 15 16);
              of_type = (named_type (named (ident 17 (codes "INTEGER"))));
              semicolon = (at 24 25);
            }) ∷ []);
          }));
        });
        procedures = [];
        body = (Some (record {
          word = (at 26 31);
          statements = (statements_of (assign_statement (designator_of (ident 32 (codes "i")) no_selectors) (at 34 36) (expr_of (simple_of None (term_of (number 37
              38 (pos 1)) (more_multipliers muls.Divide (at 39 40) (number 41 42 (pos 2)) no_multipliers)) no_addends) no_relation)) no_more_statements);
        }));
        end = (at 43 46);
        end_name = (ident 47 (codes "A"));
        period = (at 48 49);
      };
}
