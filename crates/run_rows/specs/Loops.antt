-- Small modules, with their texts and their trees, that show what loops do, and what happens where no step is left.
use Rattle.std.specs.Prelude.{codes, [], ◌∷◌, None, Some, pos}
use Rattle.oberon_tree.specs.declared.expression.Relator.TheVariants as relators
use Rattle.oberon_tree.specs.declared.expression.Sign.TheVariants as signs
use Rattle.oberon_tree.specs.declared.expression.AddOperator.TheVariants as adds
use Rattle.oberon_tree.specs.declared.expression.MulOperator.TheVariants as muls
use Rattle.oberon_tree.specs.Trees.{no_relation, relation_of, expr_of, simple_of, no_addends, more_addends, term_of, no_multipliers, more_multipliers, designator_factor, designator_of, no_selectors, more_selectors, field_selector, call_selector, no_arguments, some_arguments, exprs_of, no_more_exprs, more_exprs, named_type, no_step, step_of, statements_of, no_more_statements, more_statements, empty_statement, assign_statement, call_statement, while_statement, repeat_statement, for_statement, guarded_of, no_elsifs, more_elsifs, while_of, repeat_of, for_of}
use Rattle.run_rules.specs.Linked.{Source}
use Rattle.run_rows.specs.Parts.{at, ident, own, named, just, plain, alone, number, string, name}

abbrev pub sum_of_squares : Source
sum_of_squares = record {
  stem = codes "A";
  text = codes "MODULE A; IMPORT Out; VAR i, s: INTEGER; BEGIN i := 0; WHILE i < 4 DO s := s + i * i; INC(i) END; Out.Int(s, 0) END A.";
  tree =
      record {
        word = (at 0 6);
        name = (ident 7 (codes "A"));
        semicolon = (at 8 9);
        imports = (Some (record {
          word = (at 10 16);
          first = (record {
            name
                = (ident 17 (codes "Out"));
            alias = None;
          });
          rest = [];
          semicolon = (at 20 21);
        }));
        declarations = (record {
          constants = None;
          types = None;
          variables = (Some (record {
            word = (at 22 25);
            items = ((record {
              names = (record {
                first = (own (ident 26 (codes "i")));
                rest = ((record {
                  comma
                      = (at 27 28);
                  ident = (own (ident 29 (codes "s")));
                }) ∷ []);
              });
              colon = (at 30 31);
              of_type = (named_type (named (ident 32 (codes "INTEGER"))));
              semicolon = (at 39 40);
            }) ∷ []);
          }));
        });
        procedures = [];
        body = (Some (record {
          word = (at 41 46);
          statements = (statements_of (assign_statement
              (designator_of (ident 47 (codes "i")) no_selectors) (at 49 51) (alone (number 52 53 (pos 0)))) (more_statements (at 53 54) (while_statement
              (while_of (guarded_of (at 55 60) (expr_of (plain (name 61 (codes "i"))) (relation_of relators.Less (at 63 64) (plain (number 65 66 (pos 4)))))
              (at 67 69) (statements_of (assign_statement (designator_of (ident 70 (codes "s")) no_selectors) (at 72 74) (expr_of (simple_of None (just (name
              75 (codes "s"))) (more_addends adds.Add (at 77 78) (term_of (name 79 (codes "i")) (more_multipliers muls.Multiply (at 81 82) (name 83 (codes
              "i")) no_multipliers)) no_addends)) no_relation)) (more_statements (at 84 85) (call_statement (designator_of (ident 86 (codes "INC"))
              (more_selectors (call_selector (at 89 90) (some_arguments (exprs_of (alone (name 90 (codes "i"))) no_more_exprs)) (at 91 92)) no_selectors)))
              no_more_statements))) no_elsifs (at 93 96))) (more_statements (at 96 97) (call_statement (designator_of (ident 98 (codes "Out")) (more_selectors
              (field_selector (record { period = (at 101 102); name = (ident 102 (codes "Int")) })) (more_selectors (call_selector (at 105 106) (some_arguments
              (exprs_of (alone (name 106 (codes "s"))) (more_exprs (at 107 108) (alone (number 109 110 (pos 0))) no_more_exprs))) (at 110 111))
              no_selectors)))) no_more_statements)));
        }));
        end = (at 112 115);
        end_name = (ident 116 (codes "A"));
        period = (at 117 118);
      };
}

abbrev pub repeat_and_elsif_turns : Source
repeat_and_elsif_turns = record {
  stem = codes "A";
  text = codes "MODULE A; IMPORT Out; VAR i: INTEGER; BEGIN REPEAT INC(i) UNTIL i = 3; WHILE i > 5 DO ELSIF i > 0 DO DEC(i) END; Out.Int(i, 0); Out.String(\"\") END A.";
  tree =
      record {
        word = (at 0 6);
        name = (ident 7 (codes "A"));
        semicolon = (at 8 9);
        imports = (Some (record {
          word = (at 10 16);
          first = (record {
            name
                = (ident 17 (codes "Out"));
            alias = None;
          });
          rest = [];
          semicolon = (at 20 21);
        }));
        declarations = (record {
          constants = None;
          types = None;
          variables = (Some (record {
            word = (at 22 25);
            items = ((record {
              names = (record { first = (own (ident 26 (codes "i"))); rest = [] });
              colon =
                  (at 27 28);
              of_type = (named_type (named (ident 29 (codes "INTEGER"))));
              semicolon = (at 36 37);
            }) ∷ []);
          }));
        });
        procedures = [];
        body = (Some
            (record {
              word = (at 38 43);
              statements = (statements_of (repeat_statement (repeat_of (at 44 50) (statements_of (call_statement (designator_of
                  (ident 51 (codes "INC")) (more_selectors (call_selector (at 54 55) (some_arguments (exprs_of (alone (name 55 (codes "i"))) no_more_exprs)) (at 56
                  57)) no_selectors))) no_more_statements) (at 58 63) (expr_of (plain (name 64 (codes "i"))) (relation_of relators.Equal (at 66 67) (plain (number
                  68 69 (pos 3))))))) (more_statements (at 69 70) (while_statement (while_of (guarded_of (at 71 76) (expr_of (plain (name 77 (codes "i")))
                  (relation_of relators.Greater (at 79 80) (plain (number 81 82 (pos 5))))) (at 83 85) (statements_of empty_statement no_more_statements))
                  (more_elsifs (guarded_of (at 86 91) (expr_of (plain (name 92 (codes "i"))) (relation_of relators.Greater (at 94 95) (plain (number 96 97 (pos
                  0))))) (at 98 100) (statements_of (call_statement (designator_of (ident 101 (codes "DEC")) (more_selectors (call_selector (at 104 105)
                  (some_arguments (exprs_of (alone (name 105 (codes "i"))) no_more_exprs)) (at 106 107)) no_selectors))) no_more_statements)) no_elsifs) (at 108
                  111))) (more_statements (at 111 112) (call_statement (designator_of (ident 113 (codes "Out")) (more_selectors (field_selector (record {
                    period =
                        (at 116 117);
                    name = (ident 117 (codes "Int"));
                  })) (more_selectors (call_selector (at 120 121) (some_arguments (exprs_of (alone (name 121 (codes
                  "i"))) (more_exprs (at 122 123) (alone (number 124 125 (pos 0))) no_more_exprs))) (at 125 126)) no_selectors)))) (more_statements (at 126 127)
                  (call_statement (designator_of (ident 128 (codes "Out")) (more_selectors (field_selector (record {
                    period = (at 131 132);
                    name = (ident 132
                        (codes "String"));
                  })) (more_selectors (call_selector (at 138 139) (some_arguments (exprs_of (alone (string 139 141 [])) no_more_exprs)) (at 141
                  142)) no_selectors)))) no_more_statements))));
            }));
        end = (at 143 146);
        end_name = (ident 147 (codes "A"));
        period = (at 148 149);
      };
}

abbrev pub endless_repeat : Source
endless_repeat = record {
  stem = codes "A";
  text = codes "MODULE A; VAR i: INTEGER; BEGIN REPEAT INC(i) UNTIL i < 0 END A.";
  tree =
      record {
        word = (at 0 6);
        name = (ident 7 (codes "A"));
        semicolon = (at 8 9);
        imports = None;
        declarations = (record {
          constants = None;
          types =
              None;
          variables = (Some (record {
            word = (at 10 13);
            items = ((record {
              names = (record { first = (own (ident 14 (codes "i"))); rest = [] });
              colon = (at 15 16);
              of_type = (named_type (named (ident 17 (codes "INTEGER"))));
              semicolon = (at 24 25);
            }) ∷ []);
          }));
        });
        procedures = [];
        body =
            (Some (record {
              word = (at 26 31);
              statements = (statements_of (repeat_statement (repeat_of (at 32 38) (statements_of (call_statement
                  (designator_of (ident 39 (codes "INC")) (more_selectors (call_selector (at 42 43) (some_arguments (exprs_of (alone (name 43 (codes "i")))
                  no_more_exprs)) (at 44 45)) no_selectors))) no_more_statements) (at 46 51) (expr_of (plain (name 52 (codes "i"))) (relation_of relators.Less (at
                  54 55) (plain (number 56 57 (pos 0))))))) no_more_statements);
            }));
        end = (at 58 61);
        end_name = (ident 62 (codes "A"));
        period = (at 63 64);
      };
}

abbrev pub for_counts_down : Source
for_counts_down = record {
  stem = codes "A";
  text = codes "MODULE A; IMPORT Out; VAR i: INTEGER; BEGIN FOR i := 3 TO 1 BY -1 DO Out.Int(i, 0) END; Out.Int(i, 2); Out.String(\"\") END A.";
  tree =
      record {
        word = (at 0 6);
        name = (ident 7 (codes "A"));
        semicolon = (at 8 9);
        imports = (Some (record {
          word = (at 10 16);
          first = (record {
            name
                = (ident 17 (codes "Out"));
            alias = None;
          });
          rest = [];
          semicolon = (at 20 21);
        }));
        declarations = (record {
          constants = None;
          types = None;
          variables = (Some (record {
            word = (at 22 25);
            items = ((record {
              names = (record { first = (own (ident 26 (codes "i"))); rest = [] });
              colon =
                  (at 27 28);
              of_type = (named_type (named (ident 29 (codes "INTEGER"))));
              semicolon = (at 36 37);
            }) ∷ []);
          }));
        });
        procedures = [];
        body = (Some
            (record {
              word = (at 38 43);
              statements = (statements_of (for_statement (for_of (at 44 47) (ident 48 (codes "i")) (at 50 52) (alone (number 53 54
                  (pos 3))) (at 55 57) (alone (number 58 59 (pos 1))) (step_of (at 60 62) (expr_of (simple_of (Some (record {
                    sign = signs.Minus;
                    span = (at 63 64);
                  })) (just (number 64 65 (pos 1))) no_addends) no_relation)) (at 66 68) (statements_of (call_statement (designator_of (ident 69 (codes "Out"))
                  (more_selectors (field_selector (record { period = (at 72 73); name = (ident 73 (codes "Int")) })) (more_selectors (call_selector (at 76 77)
                  (some_arguments (exprs_of (alone (name 77 (codes "i"))) (more_exprs (at 78 79) (alone (number 80 81 (pos 0))) no_more_exprs))) (at 81 82))
                  no_selectors)))) no_more_statements) (at 83 86))) (more_statements (at 86 87) (call_statement (designator_of (ident 88 (codes "Out"))
                  (more_selectors (field_selector (record { period = (at 91 92); name = (ident 92 (codes "Int")) })) (more_selectors (call_selector (at 95 96)
                  (some_arguments (exprs_of (alone (name 96 (codes "i"))) (more_exprs (at 97 98) (alone (number 99 100 (pos 2))) no_more_exprs))) (at 100 101))
                  no_selectors)))) (more_statements (at 101 102) (call_statement (designator_of (ident 103 (codes "Out")) (more_selectors (field_selector (record {
                    period = (at 106 107);
                    name = (ident 107 (codes "String"));
                  })) (more_selectors (call_selector (at 113 114) (some_arguments (exprs_of (alone
                  (string 114 116 [])) no_more_exprs)) (at 116 117)) no_selectors)))) no_more_statements)));
            }));
        end = (at 118 121);
        end_name = (ident 122 (codes
            "A"));
        period = (at 123 124);
      };
}

abbrev pub for_limit_is_looked_at_each_turn : Source
for_limit_is_looked_at_each_turn = record {
  stem = codes "A";
  text = codes "MODULE A; IMPORT Out; VAR i, n: INTEGER; BEGIN n := 4; FOR i := 0 TO n DO DEC(n) END; Out.Int(i, 0); Out.String(\"\") END A.";
  tree =
      record {
        word = (at 0 6);
        name = (ident 7 (codes "A"));
        semicolon = (at 8 9);
        imports = (Some (record {
          word = (at 10 16);
          first = (record {
            name
                = (ident 17 (codes "Out"));
            alias = None;
          });
          rest = [];
          semicolon = (at 20 21);
        }));
        declarations = (record {
          constants = None;
          types = None;
          variables = (Some (record {
            word = (at 22 25);
            items = ((record {
              names = (record {
                first = (own (ident 26 (codes "i")));
                rest = ((record {
                  comma
                      = (at 27 28);
                  ident = (own (ident 29 (codes "n")));
                }) ∷ []);
              });
              colon = (at 30 31);
              of_type = (named_type (named (ident 32 (codes "INTEGER"))));
              semicolon = (at 39 40);
            }) ∷ []);
          }));
        });
        procedures = [];
        body = (Some (record {
          word = (at 41 46);
          statements = (statements_of (assign_statement
              (designator_of (ident 47 (codes "n")) no_selectors) (at 49 51) (alone (number 52 53 (pos 4)))) (more_statements (at 53 54) (for_statement (for_of
              (at 55 58) (ident 59 (codes "i")) (at 61 63) (alone (number 64 65 (pos 0))) (at 66 68) (alone (name 69 (codes "n"))) no_step (at 71 73)
              (statements_of (call_statement (designator_of (ident 74 (codes "DEC")) (more_selectors (call_selector (at 77 78) (some_arguments (exprs_of (alone
              (name 78 (codes "n"))) no_more_exprs)) (at 79 80)) no_selectors))) no_more_statements) (at 81 84))) (more_statements (at 84 85) (call_statement
              (designator_of (ident 86 (codes "Out")) (more_selectors (field_selector (record { period = (at 89 90); name = (ident 90 (codes "Int")) }))
              (more_selectors (call_selector (at 93 94) (some_arguments (exprs_of (alone (name 94 (codes "i"))) (more_exprs (at 95 96) (alone (number 97 98
              (pos 0))) no_more_exprs))) (at 98 99)) no_selectors)))) (more_statements (at 99 100) (call_statement (designator_of (ident 101 (codes "Out"))
              (more_selectors (field_selector (record { period = (at 104 105); name = (ident 105 (codes "String")) })) (more_selectors (call_selector (at 111
              112) (some_arguments (exprs_of (alone (string 112 114 [])) no_more_exprs)) (at 114 115)) no_selectors)))) no_more_statements))));
        }));
        end = (at
            116 119);
        end_name = (ident 120 (codes "A"));
        period = (at 121 122);
      };
}

abbrev pub for_limit_is_called_each_turn : Source
for_limit_is_called_each_turn = record {
  stem = codes "A";
  text = codes "MODULE A; IMPORT Out; VAR i, k: INTEGER; PROCEDURE F(): INTEGER; BEGIN INC(k) RETURN 2 END F; BEGIN FOR i := 0 TO F() DO END; Out.Int(k, 0) END A.";
  tree =
      record {
        word = (at 0 6);
        name = (ident 7 (codes "A"));
        semicolon = (at 8 9);
        imports = (Some (record {
          word = (at 10 16);
          first = (record {
            name
                = (ident 17 (codes "Out"));
            alias = None;
          });
          rest = [];
          semicolon = (at 20 21);
        }));
        declarations = (record {
          constants = None;
          types = None;
          variables = (Some (record {
            word = (at 22 25);
            items = ((record {
              names = (record {
                first = (own (ident 26 (codes "i")));
                rest = ((record {
                  comma
                      = (at 27 28);
                  ident = (own (ident 29 (codes "k")));
                }) ∷ []);
              });
              colon = (at 30 31);
              of_type = (named_type (named (ident 32 (codes "INTEGER"))));
              semicolon = (at 39 40);
            }) ∷ []);
          }));
        });
        procedures = ((record {
          procedure = (record {
            word = (at 41 50);
            name = (own (ident 51 (codes "F")));
            formals = (Some (record {
              opening = (at 52 53);
              sections = None;
              closing = (at 53 54);
              result_type = (Some (record {
                colon = (at 54 55);
                name =
                    (named (ident 56 (codes "INTEGER")));
              }));
            }));
            semicolon = (at 63 64);
            locals = (record { constants = None; variables = None });
            body = (Some
                (record {
                  word = (at 65 70);
                  statements = (statements_of (call_statement (designator_of (ident 71 (codes "INC")) (more_selectors (call_selector
                      (at 74 75) (some_arguments (exprs_of (alone (name 75 (codes "k"))) no_more_exprs)) (at 76 77)) no_selectors))) no_more_statements);
                }));
            returns =
                (Some (record { word = (at 78 84); value = (alone (number 85 86 (pos 2))) }));
            end = (at 87 90);
            end_name = (ident 91 (codes "F"));
          });
          semicolon
              = (at 92 93);
        }) ∷ []);
        body = (Some (record {
          word = (at 94 99);
          statements = (statements_of (for_statement (for_of (at 100 103) (ident 104
              (codes "i")) (at 106 108) (alone (number 109 110 (pos 0))) (at 111 113) (alone (designator_factor (designator_of (ident 114 (codes "F"))
              (more_selectors (call_selector (at 115 116) no_arguments (at 116 117)) no_selectors)))) no_step (at 118 120) (statements_of empty_statement
              no_more_statements) (at 121 124))) (more_statements (at 124 125) (call_statement (designator_of (ident 126 (codes "Out")) (more_selectors
              (field_selector (record { period = (at 129 130); name = (ident 130 (codes "Int")) })) (more_selectors (call_selector (at 133 134) (some_arguments
              (exprs_of (alone (name 134 (codes "k"))) (more_exprs (at 135 136) (alone (number 137 138 (pos 0))) no_more_exprs))) (at 138 139))
              no_selectors)))) no_more_statements));
        }));
        end = (at 140 143);
        end_name = (ident 144 (codes "A"));
        period = (at 145 146);
      };
}
