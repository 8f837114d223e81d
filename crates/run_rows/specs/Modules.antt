-- Small modules, with their texts and their trees, that show in which order modules run, what tests do, and what happens where no rule applies.
use Rattle.std.specs.Prelude.{codes, [], ◌∷◌, None, Some, pos}
use Rattle.oberon_tree.specs.declared.expression.Relator.TheVariants as relators
use Rattle.oberon_tree.specs.declared.expression.AddOperator.TheVariants as adds
use Rattle.oberon_tree.specs.declared.expression.MulOperator.TheVariants as muls
use Rattle.oberon_tree.specs.Trees.{no_relation, relation_of, expr_of, simple_of, no_addends, more_addends, term_of, no_multipliers, more_multipliers, true_factor, false_factor, designator_factor, designator_of, no_selectors, more_selectors, field_selector, call_selector, no_arguments, some_arguments, exprs_of, no_more_exprs, more_exprs, named_type, no_step, statements_of, no_more_statements, more_statements, empty_statement, assign_statement, call_statement, while_statement, for_statement, guarded_of, no_elsifs, while_of, for_of}
use Rattle.run_rules.specs.Linked.{Source}
use Rattle.run_rows.specs.Parts.{at, ident, own, shown, named, just, plain, alone, number, string, name}

abbrev pub import_of_another_name_c : Source
import_of_another_name_c = record {
  stem = codes "C";
  text = codes "MODULE C; VAR n*: INTEGER; PROCEDURE Get*(): INTEGER; RETURN n + 1 END Get; BEGIN n := 6 END C.";
  tree =
      record {
        word = (at 0 6);
        name = (ident 7 (codes "C"));
        semicolon = (at 8 9);
        imports = None;
        declarations = (record {
          constants = None;
          types =
              None;
          variables = (Some (record {
            word = (at 10 13);
            items = ((record {
              names = (record {
                first = (shown (ident 14 (codes "n")) (at 15 16));
                rest
                    = [];
              });
              colon = (at 16 17);
              of_type = (named_type (named (ident 18 (codes "INTEGER"))));
              semicolon = (at 25 26);
            }) ∷ []);
          }));
        });
        procedures =
            ((record {
              procedure = (record {
                word = (at 27 36);
                name = (shown (ident 37 (codes "Get")) (at 40 41));
                formals = (Some (record {
                  opening = (at
                      41 42);
                  sections = None;
                  closing = (at 42 43);
                  result_type = (Some (record { colon = (at 43 44); name = (named (ident 45 (codes "INTEGER"))) }));
                }));
                semicolon = (at 52 53);
                locals = (record { constants = None; variables = None });
                body = None;
                returns = (Some (record {
                  word = (at 54 60);
                  value = (expr_of (simple_of None (just (name 61 (codes "n"))) (more_addends adds.Add (at 63 64) (just (number 65 66 (pos 1))) no_addends))
                      no_relation);
                }));
                end = (at 67 70);
                end_name = (ident 71 (codes "Get"));
              });
              semicolon = (at 74 75);
            }) ∷ []);
        body = (Some (record {
          word = (at 76
              81);
          statements = (statements_of (assign_statement (designator_of (ident 82 (codes "n")) no_selectors) (at 84 86) (alone (number 87 88 (pos 6))))
              no_more_statements);
        }));
        end = (at 89 92);
        end_name = (ident 93 (codes "C"));
        period = (at 94 95);
      };
}

abbrev pub import_of_another_name_a : Source
import_of_another_name_a = record {
  stem = codes "A";
  text = codes "MODULE A; IMPORT Out, B := C; BEGIN Out.Int(B.n, 0); Out.Int(B.Get(), 0) END A.";
  tree =
      record {
        word = (at 0 6);
        name = (ident 7 (codes "A"));
        semicolon = (at 8 9);
        imports = (Some (record {
          word = (at 10 16);
          first = (record {
            name
                = (ident 17 (codes "Out"));
            alias = None;
          });
          rest = ((record {
            comma = (at 20 21);
            import = (record {
              name = (ident 22 (codes "B"));
              alias =
                  (Some (record { becomes = (at 24 26); imported = (ident 27 (codes "C")) }));
            });
          }) ∷ []);
          semicolon = (at 28 29);
        }));
        declarations = (record {
          constants = None;
          types = None;
          variables = None;
        });
        procedures = [];
        body = (Some (record {
          word = (at 30 35);
          statements = (statements_of
              (call_statement (designator_of (ident 36 (codes "Out")) (more_selectors (field_selector (record {
                period = (at 39 40);
                name = (ident 40 (codes
                    "Int"));
              })) (more_selectors (call_selector (at 43 44) (some_arguments (exprs_of (alone (designator_factor (designator_of (ident 44 (codes "B"))
              (more_selectors (field_selector (record { period = (at 45 46); name = (ident 46 (codes "n")) })) no_selectors)))) (more_exprs (at 47 48) (alone
              (number 49 50 (pos 0))) no_more_exprs))) (at 50 51)) no_selectors)))) (more_statements (at 51 52) (call_statement (designator_of (ident 53 (codes
              "Out")) (more_selectors (field_selector (record { period = (at 56 57); name = (ident 57 (codes "Int")) })) (more_selectors (call_selector (at 60
              61) (some_arguments (exprs_of (alone (designator_factor (designator_of (ident 61 (codes "B")) (more_selectors (field_selector (record {
                period =
                    (at 62 63);
                name = (ident 63 (codes "Get"));
              })) (more_selectors (call_selector (at 66 67) no_arguments (at 67 68)) no_selectors))))) (more_exprs
              (at 68 69) (alone (number 70 71 (pos 0))) no_more_exprs))) (at 71 72)) no_selectors)))) no_more_statements));
        }));
        end = (at 73 76);
        end_name =
            (ident 77 (codes "A"));
        period = (at 78 79);
      };
}

abbrev pub modules_in_order_e : Source
modules_in_order_e = record {
  stem = codes "E";
  text = codes "MODULE E; IMPORT Out; BEGIN Out.Char(\"E\") END E.";
  tree =
      record {
        word = (at 0 6);
        name = (ident 7 (codes "E"));
        semicolon = (at 8 9);
        imports = (Some (record {
          word = (at 10 16);
          first = (record {
            name
                = (ident 17 (codes "Out"));
            alias = None;
          });
          rest = [];
          semicolon = (at 20 21);
        }));
        declarations = (record {
          constants = None;
          types = None;
          variables = None;
        });
        procedures = [];
        body = (Some (record {
          word = (at 22 27);
          statements = (statements_of (call_statement (designator_of (ident
              28 (codes "Out")) (more_selectors (field_selector (record { period = (at 31 32); name = (ident 32 (codes "Char")) })) (more_selectors
              (call_selector (at 36 37) (some_arguments (exprs_of (alone (string 37 40 (codes "E"))) no_more_exprs)) (at 40 41)) no_selectors))))
              no_more_statements);
        }));
        end = (at 42 45);
        end_name = (ident 46 (codes "E"));
        period = (at 47 48);
      };
}

abbrev pub modules_in_order_a : Source
modules_in_order_a = record {
  stem = codes "A";
  text = codes "MODULE A; IMPORT C, B, Out; BEGIN Out.Char(\"A\") END A.";
  tree =
      record {
        word = (at 0 6);
        name = (ident 7 (codes "A"));
        semicolon = (at 8 9);
        imports = (Some (record {
          word = (at 10 16);
          first = (record {
            name
                = (ident 17 (codes "C"));
            alias = None;
          });
          rest = ((record {
            comma = (at 18 19);
            import = (record {
              name = (ident 20 (codes "B"));
              alias = None;
            });
          }) ∷ (record { comma = (at 21 22); import = (record { name = (ident 23 (codes "Out")); alias = None }) }) ∷ []);
          semicolon = (at 26 27);
        }));
        declarations = (record { constants = None; types = None; variables = None });
        procedures = [];
        body = (Some (record {
          word = (at 28 33);
          statements = (statements_of (call_statement (designator_of (ident 34 (codes "Out")) (more_selectors (field_selector (record {
            period = (at 37
                38);
            name = (ident 38 (codes "Char"));
          })) (more_selectors (call_selector (at 42 43) (some_arguments (exprs_of (alone (string 43 46 (codes "A")))
              no_more_exprs)) (at 46 47)) no_selectors)))) no_more_statements);
        }));
        end = (at 48 51);
        end_name = (ident 52 (codes "A"));
        period = (at 53 54);
      };
}

abbrev pub modules_in_order_b : Source
modules_in_order_b = record {
  stem = codes "B";
  text = codes "MODULE B; IMPORT Out, D; BEGIN Out.Char(\"B\") END B.";
  tree =
      record {
        word = (at 0 6);
        name = (ident 7 (codes "B"));
        semicolon = (at 8 9);
        imports = (Some (record {
          word = (at 10 16);
          first = (record {
            name
                = (ident 17 (codes "Out"));
            alias = None;
          });
          rest = ((record {
            comma = (at 20 21);
            import = (record {
              name = (ident 22 (codes "D"));
              alias = None;
            });
          }) ∷ []);
          semicolon = (at 23 24);
        }));
        declarations = (record { constants = None; types = None; variables = None });
        procedures = [];
        body =
            (Some (record {
              word = (at 25 30);
              statements = (statements_of (call_statement (designator_of (ident 31 (codes "Out")) (more_selectors
                  (field_selector (record { period = (at 34 35); name = (ident 35 (codes "Char")) })) (more_selectors (call_selector (at 39 40) (some_arguments
                  (exprs_of (alone (string 40 43 (codes "B"))) no_more_exprs)) (at 43 44)) no_selectors)))) no_more_statements);
            }));
        end = (at 45 48);
        end_name =
            (ident 49 (codes "B"));
        period = (at 50 51);
      };
}

abbrev pub modules_in_order_c : Source
modules_in_order_c = record {
  stem = codes "C";
  text = codes "MODULE C; IMPORT D, Out; BEGIN Out.Char(\"C\") END C.";
  tree =
      record {
        word = (at 0 6);
        name = (ident 7 (codes "C"));
        semicolon = (at 8 9);
        imports = (Some (record {
          word = (at 10 16);
          first = (record {
            name
                = (ident 17 (codes "D"));
            alias = None;
          });
          rest = ((record {
            comma = (at 18 19);
            import = (record {
              name = (ident 20 (codes "Out"));
              alias = None;
            });
          }) ∷ []);
          semicolon = (at 23 24);
        }));
        declarations = (record { constants = None; types = None; variables = None });
        procedures = [];
        body =
            (Some (record {
              word = (at 25 30);
              statements = (statements_of (call_statement (designator_of (ident 31 (codes "Out")) (more_selectors
                  (field_selector (record { period = (at 34 35); name = (ident 35 (codes "Char")) })) (more_selectors (call_selector (at 39 40) (some_arguments
                  (exprs_of (alone (string 40 43 (codes "C"))) no_more_exprs)) (at 43 44)) no_selectors)))) no_more_statements);
            }));
        end = (at 45 48);
        end_name =
            (ident 49 (codes "C"));
        period = (at 50 51);
      };
}

abbrev pub modules_in_order_d : Source
modules_in_order_d = record {
  stem = codes "D";
  text = codes "MODULE D; IMPORT Out; BEGIN Out.Char(\"D\") END D.";
  tree =
      record {
        word = (at 0 6);
        name = (ident 7 (codes "D"));
        semicolon = (at 8 9);
        imports = (Some (record {
          word = (at 10 16);
          first = (record {
            name
                = (ident 17 (codes "Out"));
            alias = None;
          });
          rest = [];
          semicolon = (at 20 21);
        }));
        declarations = (record {
          constants = None;
          types = None;
          variables = None;
        });
        procedures = [];
        body = (Some (record {
          word = (at 22 27);
          statements = (statements_of (call_statement (designator_of (ident
              28 (codes "Out")) (more_selectors (field_selector (record { period = (at 31 32); name = (ident 32 (codes "Char")) })) (more_selectors
              (call_selector (at 36 37) (some_arguments (exprs_of (alone (string 37 40 (codes "D"))) no_more_exprs)) (at 40 41)) no_selectors))))
              no_more_statements);
        }));
        end = (at 42 45);
        end_name = (ident 46 (codes "D"));
        period = (at 47 48);
      };
}

abbrev pub test_behind_bodies_b : Source
test_behind_bodies_b = record {
  stem = codes "B";
  text = codes "MODULE B; IMPORT Out; VAR n*: INTEGER; PROCEDURE Add*(x: INTEGER); BEGIN n := n + x; Out.Int(n, 0) END Add; BEGIN n := 5 END B.";
  tree =
      record {
        word = (at 0 6);
        name = (ident 7 (codes "B"));
        semicolon = (at 8 9);
        imports = (Some (record {
          word = (at 10 16);
          first = (record {
            name
                = (ident 17 (codes "Out"));
            alias = None;
          });
          rest = [];
          semicolon = (at 20 21);
        }));
        declarations = (record {
          constants = None;
          types = None;
          variables = (Some (record {
            word = (at 22 25);
            items = ((record {
              names = (record {
                first = (shown (ident 26 (codes "n")) (at 27 28));
                rest = [];
              });
              colon = (at 28 29);
              of_type = (named_type (named (ident 30 (codes "INTEGER"))));
              semicolon = (at 37 38);
            }) ∷ []);
          }));
        });
        procedures =
            ((record {
              procedure = (record {
                word = (at 39 48);
                name = (shown (ident 49 (codes "Add")) (at 52 53));
                formals = (Some (record {
                  opening = (at
                      53 54);
                  sections = (Some (record {
                    first = (record {
                      by_var = None;
                      names = (record { first = (ident 54 (codes "x")); rest = [] });
                      colon = (at
                          55 56);
                      of_type = (record { opens = []; name = (named (ident 57 (codes "INTEGER"))) });
                    });
                    rest = [];
                  }));
                  closing = (at 64 65);
                  result_type =
                      None;
                }));
                semicolon = (at 65 66);
                locals = (record { constants = None; variables = None });
                body = (Some (record {
                  word = (at 67 72);
                  statements
                      = (statements_of (assign_statement (designator_of (ident 73 (codes "n")) no_selectors) (at 75 77) (expr_of (simple_of None (just (name 78 (codes
                      "n"))) (more_addends adds.Add (at 80 81) (just (name 82 (codes "x"))) no_addends)) no_relation)) (more_statements (at 83 84) (call_statement
                      (designator_of (ident 85 (codes "Out")) (more_selectors (field_selector (record { period = (at 88 89); name = (ident 89 (codes "Int")) }))
                      (more_selectors (call_selector (at 92 93) (some_arguments (exprs_of (alone (name 93 (codes "n"))) (more_exprs (at 94 95) (alone (number 96 97
                      (pos 0))) no_more_exprs))) (at 97 98)) no_selectors)))) no_more_statements));
                }));
                returns = None;
                end = (at 99 102);
                end_name = (ident 103 (codes
                    "Add"));
              });
              semicolon = (at 106 107);
            }) ∷ []);
        body = (Some (record {
          word = (at 108 113);
          statements = (statements_of (assign_statement
              (designator_of (ident 114 (codes "n")) no_selectors) (at 116 118) (alone (number 119 120 (pos 5)))) no_more_statements);
        }));
        end = (at 121 124);
        end_name = (ident 125 (codes "B"));
        period = (at 126 127);
      };
}

abbrev pub test_behind_bodies_t : Source
test_behind_bodies_t = record {
  stem = codes "T";
  text = codes "MODULE T; IMPORT B, Out; VAR k: INTEGER; PROCEDURE TestA*; VAR i: INTEGER; BEGIN FOR i := 1 TO 3 DO B.Add(i + k) END; Out.Ln; ASSERT(B.n = 20) END TestA; BEGIN k := 3; B.Add(1) END T.";
  tree =
      record {
        word = (at 0 6);
        name = (ident 7 (codes "T"));
        semicolon = (at 8 9);
        imports = (Some (record {
          word = (at 10 16);
          first = (record {
            name
                = (ident 17 (codes "B"));
            alias = None;
          });
          rest = ((record {
            comma = (at 18 19);
            import = (record {
              name = (ident 20 (codes "Out"));
              alias = None;
            });
          }) ∷ []);
          semicolon = (at 23 24);
        }));
        declarations = (record {
          constants = None;
          types = None;
          variables = (Some (record {
            word = (at 25 28);
            items = ((record {
              names = (record { first = (own (ident 29 (codes "k"))); rest = [] });
              colon = (at 30 31);
              of_type = (named_type (named (ident
                  32 (codes "INTEGER"))));
              semicolon = (at 39 40);
            }) ∷ []);
          }));
        });
        procedures = ((record {
          procedure = (record {
            word = (at 41 50);
            name = (shown
                (ident 51 (codes "TestA")) (at 56 57));
            formals = None;
            semicolon = (at 57 58);
            locals = (record {
              constants = None;
              variables = (Some (record {
                word = (at 59 62);
                items = ((record {
                  names = (record { first = (ident 63 (codes "i")); rest = [] });
                  colon = (at 64 65);
                  of_type = (named_type
                      (named (ident 66 (codes "INTEGER"))));
                  semicolon = (at 73 74);
                }) ∷ []);
              }));
            });
            body = (Some (record {
              word = (at 75 80);
              statements =
                  (statements_of (for_statement (for_of (at 81 84) (ident 85 (codes "i")) (at 87 89) (alone (number 90 91 (pos 1))) (at 92 94) (alone (number 95 96
                  (pos 3))) no_step (at 97 99) (statements_of (call_statement (designator_of (ident 100 (codes "B")) (more_selectors (field_selector (record {
                    period = (at 101 102);
                    name = (ident 102 (codes "Add"));
                  })) (more_selectors (call_selector (at 105 106) (some_arguments (exprs_of (expr_of
                  (simple_of None (just (name 106 (codes "i"))) (more_addends adds.Add (at 108 109) (just (name 110 (codes "k"))) no_addends)) no_relation)
                  no_more_exprs)) (at 111 112)) no_selectors)))) no_more_statements) (at 113 116))) (more_statements (at 116 117) (call_statement (designator_of
                  (ident 118 (codes "Out")) (more_selectors (field_selector (record { period = (at 121 122); name = (ident 122 (codes "Ln")) })) no_selectors)))
                  (more_statements (at 124 125) (call_statement (designator_of (ident 126 (codes "ASSERT")) (more_selectors (call_selector (at 132 133)
                  (some_arguments (exprs_of (expr_of (plain (designator_factor (designator_of (ident 133 (codes "B")) (more_selectors (field_selector (record {
                    period = (at 134 135);
                    name = (ident 135 (codes "n"));
                  })) no_selectors)))) (relation_of relators.Equal (at 137 138) (plain (number 139 141 (pos
                  20))))) no_more_exprs)) (at 141 142)) no_selectors))) no_more_statements)));
            }));
            returns = None;
            end = (at 143 146);
            end_name = (ident 147 (codes
                "TestA"));
          });
          semicolon = (at 152 153);
        }) ∷ []);
        body = (Some (record {
          word = (at 154 159);
          statements = (statements_of (assign_statement
              (designator_of (ident 160 (codes "k")) no_selectors) (at 162 164) (alone (number 165 166 (pos 3)))) (more_statements (at 166 167) (call_statement
              (designator_of (ident 168 (codes "B")) (more_selectors (field_selector (record { period = (at 169 170); name = (ident 170 (codes "Add")) }))
              (more_selectors (call_selector (at 173 174) (some_arguments (exprs_of (alone (number 174 175 (pos 1))) no_more_exprs)) (at 175 176))
              no_selectors)))) no_more_statements));
        }));
        end = (at 177 180);
        end_name = (ident 181 (codes "T"));
        period = (at 182 183);
      };
}

abbrev pub endless_recursion : Source
endless_recursion = record {
  stem = codes "T";
  text = codes "MODULE T; PROCEDURE TestX*; BEGIN TestX END TestX; END T.";
  tree =
      record {
        word = (at 0 6);
        name = (ident 7 (codes "T"));
        semicolon = (at 8 9);
        imports = None;
        declarations = (record {
          constants = None;
          types =
              None;
          variables = None;
        });
        procedures = ((record {
          procedure = (record {
            word = (at 10 19);
            name = (shown (ident 20 (codes "TestX")) (at 25 26));
            formals = None;
            semicolon = (at 26 27);
            locals = (record { constants = None; variables = None });
            body = (Some (record {
              word = (at 28 33);
              statements = (statements_of (call_statement (designator_of (ident 34 (codes "TestX")) no_selectors)) no_more_statements);
            }));
            returns = None;
            end
                = (at 40 43);
            end_name = (ident 44 (codes "TestX"));
          });
          semicolon = (at 49 50);
        }) ∷ []);
        body = None;
        end = (at 51 54);
        end_name = (ident 55
            (codes "T"));
        period = (at 56 57);
      };
}

abbrev pub four_tests : Source
four_tests = record {
  stem = codes "T";
  text = codes "MODULE T;\nPROCEDURE TestA*; BEGIN ASSERT(TRUE) END TestA;\nPROCEDURE TestB*; BEGIN ASSERT(FALSE) END TestB;\nPROCEDURE TestC*; BEGIN WHILE TRUE DO END END TestC;\nPROCEDURE TestD*; VAR x: INTEGER; BEGIN x := 0; x := 1 DIV x END TestD;\nEND T.";
  tree =
      record {
        word = (at 0 6);
        name = (ident 7 (codes "T"));
        semicolon = (at 8 9);
        imports = None;
        declarations = (record {
          constants = None;
          types =
              None;
          variables = None;
        });
        procedures = ((record {
          procedure = (record {
            word = (at 10 19);
            name = (shown (ident 20 (codes "TestA")) (at 25 26));
            formals = None;
            semicolon = (at 26 27);
            locals = (record { constants = None; variables = None });
            body = (Some (record {
              word = (at 28 33);
              statements = (statements_of (call_statement (designator_of (ident 34 (codes "ASSERT")) (more_selectors (call_selector (at 40 41) (some_arguments
                  (exprs_of (alone (true_factor (at 41 45))) no_more_exprs)) (at 45 46)) no_selectors))) no_more_statements);
            }));
            returns = None;
            end = (at 47 50);
            end_name = (ident 51 (codes "TestA"));
          });
          semicolon = (at 56 57);
        }) ∷ (record {
          procedure = (record {
            word = (at 58 67);
            name = (shown (ident 68
                (codes "TestB")) (at 73 74));
            formals = None;
            semicolon = (at 74 75);
            locals = (record { constants = None; variables = None });
            body = (Some
                (record {
                  word = (at 76 81);
                  statements = (statements_of (call_statement (designator_of (ident 82 (codes "ASSERT")) (more_selectors
                      (call_selector (at 88 89) (some_arguments (exprs_of (alone (false_factor (at 89 94))) no_more_exprs)) (at 94 95)) no_selectors)))
                      no_more_statements);
                }));
            returns = None;
            end = (at 96 99);
            end_name = (ident 100 (codes "TestB"));
          });
          semicolon = (at 105 106);
        }) ∷ (record {
          procedure = (record {
            word = (at 107 116);
            name = (shown (ident 117 (codes "TestC")) (at 122 123));
            formals = None;
            semicolon = (at 123 124);
            locals = (record { constants = None; variables = None });
            body = (Some (record {
              word = (at 125 130);
              statements = (statements_of
                  (while_statement (while_of (guarded_of (at 131 136) (alone (true_factor (at 137 141))) (at 142 144) (statements_of empty_statement
                  no_more_statements)) no_elsifs (at 145 148))) no_more_statements);
            }));
            returns = None;
            end = (at 149 152);
            end_name = (ident 153 (codes "TestC"));
          });
          semicolon = (at 158 159);
        }) ∷ (record {
          procedure = (record {
            word = (at 160 169);
            name = (shown (ident 170 (codes "TestD")) (at 175 176));
            formals = None;
            semicolon = (at 176 177);
            locals = (record {
              constants = None;
              variables = (Some (record {
                word = (at 178 181);
                items = ((record {
                  names = (record { first = (ident 182 (codes "x")); rest = [] });
                  colon = (at 183 184);
                  of_type = (named_type (named (ident 185 (codes
                      "INTEGER"))));
                  semicolon = (at 192 193);
                }) ∷ []);
              }));
            });
            body = (Some (record {
              word = (at 194 199);
              statements = (statements_of
                  (assign_statement (designator_of (ident 200 (codes "x")) no_selectors) (at 202 204) (alone (number 205 206 (pos 0)))) (more_statements (at 206
                  207) (assign_statement (designator_of (ident 208 (codes "x")) no_selectors) (at 210 212) (expr_of (simple_of None (term_of (number 213 214 (pos
                  1)) (more_multipliers muls.Div (at 215 218) (name 219 (codes "x")) no_multipliers)) no_addends) no_relation)) no_more_statements));
            }));
            returns =
                None;
            end = (at 221 224);
            end_name = (ident 225 (codes "TestD"));
          });
          semicolon = (at 230 231);
        }) ∷ []);
        body = None;
        end = (at 232 235);
        end_name
            = (ident 236 (codes "T"));
        period = (at 237 238);
      };
}

abbrev pub name_that_means_nothing : Source
name_that_means_nothing = record {
  stem = codes "A";
  text = codes "\n MODULE A; BEGIN x := 1 END A.";
  tree =
      record {
        word = (at 2 8);
        name = (ident 9 (codes "A"));
        semicolon = (at 10 11);
        imports = None;
        declarations = (record {
          constants = None;
          types
              = None;
          variables = None;
        });
        procedures = [];
        body = (Some (record {
          word = (at 12 17);
          statements = (statements_of (assign_statement
              (designator_of (ident 18 (codes "x")) no_selectors) (at 20 22) (alone (number 23 24 (pos 1)))) no_more_statements);
        }));
        end = (at 25 28);
        end_name = (ident 29 (codes "A"));
        period = (at 30 31);
      };
}

abbrev pub call_without_a_value : Source
call_without_a_value = record {
  stem = codes "A";
  text = codes "MODULE A; IMPORT Out; BEGIN Out.Char(\"a\"); ASSERT(Out.Char(\"b\")) END A.";
  tree =
      record {
        word = (at 0 6);
        name = (ident 7 (codes "A"));
        semicolon = (at 8 9);
        imports = (Some (record {
          word = (at 10 16);
          first = (record {
            name
                = (ident 17 (codes "Out"));
            alias = None;
          });
          rest = [];
          semicolon = (at 20 21);
        }));
        declarations = (record {
          constants = None;
          types = None;
          variables = None;
        });
        procedures = [];
        body = (Some (record {
          word = (at 22 27);
          statements = (statements_of (call_statement (designator_of (ident
              28 (codes "Out")) (more_selectors (field_selector (record { period = (at 31 32); name = (ident 32 (codes "Char")) })) (more_selectors
              (call_selector (at 36 37) (some_arguments (exprs_of (alone (string 37 40 (codes "a"))) no_more_exprs)) (at 40 41)) no_selectors))))
              (more_statements (at 41 42) (call_statement (designator_of (ident 43 (codes "ASSERT")) (more_selectors (call_selector (at 49 50) (some_arguments
              (exprs_of (alone (designator_factor (designator_of (ident 50 (codes "Out")) (more_selectors (field_selector (record {
                period = (at 53 54);
                name =
                    (ident 54 (codes "Char"));
              })) (more_selectors (call_selector (at 58 59) (some_arguments (exprs_of (alone (string 59 62 (codes "b")))
              no_more_exprs)) (at 62 63)) no_selectors))))) no_more_exprs)) (at 63 64)) no_selectors))) no_more_statements));
        }));
        end = (at 65 68);
        end_name =
            (ident 69 (codes "A"));
        period = (at 70 71);
      };
}
